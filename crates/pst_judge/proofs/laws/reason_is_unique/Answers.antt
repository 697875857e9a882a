use Rattle.pst_judge.proofs.OneJudgement.{one_why}
use Rattle.pst_judge.proofs.laws.reason_is_unique.Goals as goal

pub returns : goal.returns
returns c = one_why
