use Rattle.std.proofs.Common.{refl}
use Rattle.pst.proofs.Endings.{lost_only_if}
use Rattle.pst.proofs.campaigning.save_failures_if_wanted.Goals as goal

pub returns-in-Some : goal.returns-in-Some
returns-in-Some g c = lost_only_if c.save_failures.result (rw c.in-Some.is refl) c.save_failures.ensures
