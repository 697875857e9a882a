use Rattle.std.proofs.Common.{length}
use Rattle.pst_driver.proofs.branches.+start_branch_threads_and_join.Given as goal

abbrev pub decreases-start_branch_threads_and_join : goal.decreases-start_branch_threads_and_join
decreases-start_branch_threads_and_join g l = length l.branches.now
