use Rattle.std.proofs.Common.{length}
use Rattle.pst_trial.proofs.attempts.+judge_burst.Given as goal

abbrev pub decreases-judge_burst : goal.decreases-judge_burst
decreases-judge_burst g l = length l.rest.now
