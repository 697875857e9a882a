use Rattle.std.proofs.Common.{length}
use Rattle.pst_case.proofs.case.+are_branches_together_within.Given as goal

abbrev pub decreases-are_branches_together_within : goal.decreases-are_branches_together_within
decreases-are_branches_together_within g l = length l.branches.now
