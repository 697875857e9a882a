use Rattle.std.proofs.Common.{length}
use Rattle.pst_eval.proofs.reach.+reach_of_parameter.Given as goal

abbrev pub decreases-reach_of_parameter : goal.decreases-reach_of_parameter
decreases-reach_of_parameter l = length l.params.now
