use Rattle.std.proofs.Common.{length}
use Rattle.pst_driver.proofs.driving.+are_all_branch_replies_values.Given as goal

abbrev pub decreases-are_all_branch_replies_values : goal.decreases-are_all_branch_replies_values
decreases-are_all_branch_replies_values l = length l.branches.now
