use Rattle.std.proofs.Common.{length}
use Rattle.pst_case.proofs.argument_checks.+append_result_types_of_branches.Given as goal

abbrev pub decreases-append_result_types_of_branches : goal.decreases-append_result_types_of_branches
decreases-append_result_types_of_branches l = length l.branches.now
