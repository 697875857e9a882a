use Rattle.std.proofs.Common.{length}
use Rattle.pst_driver.proofs.bursts.+histories_of_drives.Given as goal

abbrev pub decreases-histories_of_drives : goal.decreases-histories_of_drives
decreases-histories_of_drives g l = length l.drives
