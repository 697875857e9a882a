use Rattle.std.proofs.Common.{length}
use Rattle.pst_runs.proofs.times.+read_remaining_times.Given as goal

abbrev pub decreases-read_remaining_times : goal.decreases-read_remaining_times
decreases-read_remaining_times l = length l.replies.now
