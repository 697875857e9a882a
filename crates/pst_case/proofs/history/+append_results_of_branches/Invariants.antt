use Rattle.std.proofs.Common.{length}
use Rattle.pst_case.proofs.history.+append_results_of_branches.Given as goal

abbrev pub decreases-append_results_of_branches : goal.decreases-append_results_of_branches
decreases-append_results_of_branches l = length l.branches.now
