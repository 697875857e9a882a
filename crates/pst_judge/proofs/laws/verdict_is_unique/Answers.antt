use Rattle.pst_judge.proofs.OneJudgement.{one_verdict}
use Rattle.pst_judge.proofs.laws.verdict_is_unique.Goals as goal

pub returns : goal.returns
returns c = one_verdict
