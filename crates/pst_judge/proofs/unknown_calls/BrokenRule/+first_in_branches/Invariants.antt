use Rattle.std.proofs.Common.{length}
use Rattle.pst_judge.proofs.unknown_calls.BrokenRule.+first_in_branches.Given as goal

abbrev pub decreases-first_in_branches : goal.decreases-first_in_branches
decreases-first_in_branches g l = length l.branches.now
