use Rattle.std.proofs.Common.{length}
use Rattle.pst_reasons.proofs.allowing.+is_answer_one_of.Given as goal

abbrev pub decreases-is_answer_one_of : goal.decreases-is_answer_one_of
decreases-is_answer_one_of l = length l.answers.now
