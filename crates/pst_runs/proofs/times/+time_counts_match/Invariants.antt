use Rattle.std.proofs.Common.{length}
use Rattle.pst_runs.proofs.times.+time_counts_match.Given as goal

abbrev pub decreases-time_counts_match : goal.decreases-time_counts_match
decreases-time_counts_match l = length l.branches.now
