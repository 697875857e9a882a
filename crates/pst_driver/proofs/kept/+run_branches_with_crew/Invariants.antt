use Rattle.std.proofs.Common.{length}
use Rattle.pst_driver.proofs.kept.+run_branches_with_crew.Given as goal

abbrev pub decreases-run_branches_with_crew : goal.decreases-run_branches_with_crew
decreases-run_branches_with_crew g l = length l.branches.now
