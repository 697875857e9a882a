use Rattle.std.proofs.Common.{◌≡◌}
use Rattle.pst_sexpr.specs.Lawful.{AreTrees}
use Rattle.pst_sexpr.proofs.form.Tree.node.Given as goal

abbrev pub invariant-loop-tree : goal.invariant-loop-tree
invariant-loop-tree l = (l.forms ≡ l.yielded) × AreTrees l.forms
