use Rattle.std.proofs.Common.{length}
use Rattle.pst_judge.proofs.judging.+number_of_first_missing_result.Given as goal

abbrev pub decreases-number_of_first_missing_result : goal.decreases-number_of_first_missing_result
decreases-number_of_first_missing_result l = length l.results.now
