use Rattle.std.proofs.Common.{◌≡◌, take}
use Rattle.pst_scene.specs.Parts.{referred}
use Rattle.pst_scene.proofs.attempt.expression_references.Given as goal

abbrev pub invariant-loop-expr : goal.invariant-loop-expr
invariant-loop-expr l = referred l.each.items ≡ take l.expr-index l.exprs
