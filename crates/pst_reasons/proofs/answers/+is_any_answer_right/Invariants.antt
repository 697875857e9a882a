use Rattle.std.proofs.Common.{length}
use Rattle.pst_reasons.proofs.answers.+is_any_answer_right.Given as goal

abbrev pub decreases-is_any_answer_right : goal.decreases-is_any_answer_right
decreases-is_any_answer_right l = length l.answers.now
