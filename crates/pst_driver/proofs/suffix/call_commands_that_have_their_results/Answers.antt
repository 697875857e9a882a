use Rattle.pst_driver.proofs.Parts.{late_all}
use Rattle.pst_driver.proofs.suffix.call_commands_that_have_their_results.Goals as goal

pub returns : goal.returns
returns g c = late_all c.loop-command.invariant.completes c.in_default.ensures.cases
