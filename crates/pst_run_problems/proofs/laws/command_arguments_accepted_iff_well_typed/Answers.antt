use Rattle.pst_run_problems.proofs.Accepted.{accepted}
use Rattle.pst_run_problems.proofs.laws.command_arguments_accepted_iff_well_typed.Goals as goal

pub returns : goal.returns
returns c = accepted
