use Rattle.pst_judge.proofs.InOrder.{ordered_is_explained}
use Rattle.pst_judge.proofs.laws.ordered_is_explained.Goals as goal

pub returns : goal.returns
returns c = ordered_is_explained
