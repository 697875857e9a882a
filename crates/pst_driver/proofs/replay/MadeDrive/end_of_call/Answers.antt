use Rattle.std.proofs.Common.{sym}
use Rattle.pst_driver.proofs.Made.{ends_so}
use Rattle.pst_driver.proofs.replay.MadeDrive.end_of_call.Goals as goal

pub returns-then-eq : goal.returns-then-eq
returns-then-eq g c = ends_so _ _ c.in_ok-made.ensures (sym c.if-eq.ensures) _ c.copy_of_end.ensures
