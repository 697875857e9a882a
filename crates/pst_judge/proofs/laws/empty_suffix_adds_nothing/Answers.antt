use Rattle.pst_judge.proofs.NoSuffix.{empty_suffix}
use Rattle.pst_judge.proofs.laws.empty_suffix_adds_nothing.Goals as goal

pub returns : goal.returns
returns c = empty_suffix
