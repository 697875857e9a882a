use Rattle.std.proofs.Common.{◌≡◌, [], map, drop}
use Rattle.pst_eval.specs.Env.{env_of, mean_in}
use Rattle.pst_eval.specs.Meaning.{all_from}
use Rattle.pst_scene.specs.Parts.{referred}
use Rattle.pst_scene.proofs.attempt.evaluate_references_in_turn.Given as goal

abbrev pub invariant-loop-expr : goal.invariant-loop-expr
invariant-loop-expr l =
    all_from l.values (map (mean_in l.context) (drop l.expr-index (referred l.exprs))) (env_of l.env) l.left ≡ all_from [] (map (mean_in l.context) (referred l.exprs)) (env_of l.env) l.turns
