use Rattle.pst_judge.proofs.InOrder.{some_is_in_order}
use Rattle.pst_judge.proofs.laws.some_is_in_order.Goals as goal

pub returns : goal.returns
returns c = some_is_in_order
