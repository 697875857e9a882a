use Rattle.std.proofs.Common.{length}
use Rattle.pst_precedence.proofs.obstacles.+leave_out_each_if_possible.Given as goal

abbrev pub decreases-leave_out_each_if_possible : goal.decreases-leave_out_each_if_possible
decreases-leave_out_each_if_possible g l = length l.first.now
