use Rattle.std.proofs.Common.{◌∙◌}
use Rattle.pst_eval.specs.Env.{env_of}
use Rattle.pst_scene.proofs.Descending.{at_start}
use Rattle.pst_scene.proofs.evaluating.evaluate_expression_of_model.Goals as goal

pub returns-in-Ok : goal.returns-in-Ok
returns-in-Ok c = (
  c.eval.new.turns,
  at_start c.args.model.now c.evaluation_context_of_model.result c.args.expr.now (env_of c.args.env.now) c.evaluation_context_of_model.ensures.items c.evaluation_context_of_model.ensures.earlier ∙ c.in-Ok.ensures,
)
