use Rattle.pst_judge.proofs.InOrder.{any_order_is_none}
use Rattle.pst_judge.proofs.laws.any_order_is_none.Goals as goal

pub returns : goal.returns
returns c = any_order_is_none
