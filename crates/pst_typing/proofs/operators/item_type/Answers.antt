use Rattle.pst_typing.proofs.Formed.{item_some, item_none}
use Rattle.pst_typing.proofs.operators.item_type.Goals as goal

pub returns-in-List : goal.returns-in-List
returns-in-List c = item_some c.in_ok-item.field-0 c.args.list.now c.in_ok-item.ensures c.in-List.item c.in-List.is

pub returns : goal.returns
returns c = item_none c.in_ok-item.field-0 c.args.list.now c.in_ok-item.ensures c.in_default.not-List
