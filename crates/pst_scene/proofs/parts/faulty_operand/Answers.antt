use Rattle.std.proofs.Common.{ap, ◌∙◌}
use Rattle.pst_eval.specs.Env.{env_of}
use Rattle.pst_scene.proofs.Deciding.{operand_decides}
use Rattle.pst_scene.specs.Parts.{referred}
use Rattle.pst_scene.proofs.parts.faulty_operand.Goals as goal

pub returns-in-Faults : goal.returns-in-Faults
returns-in-Faults c =
    operand_decides c.args.context.now c.args.expr.now (env_of c.args.env.now) c.args.turns c.in-Faults.operand.now c.in-Faults.left c.in-Faults.field-2
    (rw (ap referred c.as_slice.ensures.value ∙ c.in_ok-operands.ensures) at (rw c.in-Faults.is at c.in_ok-operand.ensures))
