use Rattle.std.proofs.Common.{length}
use Rattle.pst_eval.proofs.context.+look_up_in_frame.Given as goal

abbrev pub decreases-look_up_in_frame : goal.decreases-look_up_in_frame
decreases-look_up_in_frame l = length l.params.now
