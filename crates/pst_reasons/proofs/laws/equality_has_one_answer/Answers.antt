use Rattle.pst_reasons.proofs.Equality.{equality_has_one_answer}
use Rattle.pst_reasons.proofs.laws.equality_has_one_answer.Goals as goal

pub returns : goal.returns
returns c = equality_has_one_answer
