use Rattle.std.proofs.Common.{length}
use Rattle.pst_judge.proofs.symbolic.+branches_with_numbers.Given as goal

abbrev pub decreases-branches_with_numbers : goal.decreases-branches_with_numbers
decreases-branches_with_numbers l = length l.branches.now
