use Rattle.pst_judge.proofs.OneJudgement.{one_judgement}
use Rattle.pst_judge.proofs.laws.judgement_is_unique.Goals as goal

pub returns : goal.returns
returns c = one_judgement
