use Rattle.std.proofs.Common.{length}
use Rattle.pst_judge.proofs.total.+greatest_reach_after_branches.Given as goal

abbrev pub decreases-greatest_reach_after_branches : goal.decreases-greatest_reach_after_branches
decreases-greatest_reach_after_branches l = length l.branches.now
