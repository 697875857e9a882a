use Rattle.pst_grid.proofs.Counting.{few-steps}
use Rattle.pst_grid.proofs.laws.few_steps_if_state_never_changes.Goals as goal

pub returns : goal.returns
returns g c = few-steps
