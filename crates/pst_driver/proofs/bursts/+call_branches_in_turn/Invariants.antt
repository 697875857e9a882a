use Rattle.std.proofs.Common.{length}
use Rattle.pst_driver.proofs.bursts.+call_branches_in_turn.Given as goal

abbrev pub decreases-call_branches_in_turn : goal.decreases-call_branches_in_turn
decreases-call_branches_in_turn g l = length l.branches.now
