use Rattle.std.proofs.Common.{length}
use Rattle.pst_runs.proofs.times.+read_times_of_remaining_branches.Given as goal

abbrev pub decreases-read_times_of_remaining_branches : goal.decreases-read_times_of_remaining_branches
decreases-read_times_of_remaining_branches l = length l.branches.now
