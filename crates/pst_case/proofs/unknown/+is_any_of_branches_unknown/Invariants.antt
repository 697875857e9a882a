use Rattle.std.proofs.Common.{length}
use Rattle.pst_case.proofs.unknown.+is_any_of_branches_unknown.Given as goal

abbrev pub decreases-is_any_of_branches_unknown : goal.decreases-is_any_of_branches_unknown
decreases-is_any_of_branches_unknown l = length l.branches.now
