use Rattle.std.proofs.Common.{length}
use Rattle.pst_judge.proofs.symbolic_search.+append_branch_numbers_in_turn.Given as goal

abbrev pub decreases-append_branch_numbers_in_turn : goal.decreases-append_branch_numbers_in_turn
decreases-append_branch_numbers_in_turn l = length l.branches.now
