use Rattle.std.proofs.Common.{length}
use Rattle.pst_judge.proofs.symbolic_search.+sum_of_branch_lengths.Given as goal

abbrev pub decreases-sum_of_branch_lengths : goal.decreases-sum_of_branch_lengths
decreases-sum_of_branch_lengths l = length l.lengths.now
