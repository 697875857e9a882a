use Rattle.std.proofs.Common.{length}
use Rattle.pst_clients.proofs.burst.+count_drives.Given as goal

abbrev pub decreases-count_drives : goal.decreases-count_drives
decreases-count_drives l = length l.answers.now
