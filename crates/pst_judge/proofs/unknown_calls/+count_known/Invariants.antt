use Rattle.std.proofs.Common.{length}
use Rattle.pst_judge.proofs.unknown_calls.+count_known.Given as goal

abbrev pub decreases-count_known : goal.decreases-count_known
decreases-count_known l = length l.calls.now
