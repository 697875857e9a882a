use Rattle.std.proofs.Common.{length}
use Rattle.pst_judge.proofs.unknown_calls.+needs_missing_result.Given as goal

abbrev pub decreases-needs_missing_result : goal.decreases-needs_missing_result
decreases-needs_missing_result l = length l.results.now
