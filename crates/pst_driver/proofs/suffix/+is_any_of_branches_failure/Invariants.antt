use Rattle.std.proofs.Common.{length}
use Rattle.pst_driver.proofs.suffix.+is_any_of_branches_failure.Given as goal

abbrev pub decreases-is_any_of_branches_failure : goal.decreases-is_any_of_branches_failure
decreases-is_any_of_branches_failure l = length l.branches.now
