use Rattle.pst_typing.proofs.Formed.{values_some, values_none}
use Rattle.pst_typing.proofs.operators.values_type.Goals as goal

pub returns-in-Map : goal.returns-in-Map
returns-in-Map c = values_some c.in_ok-value.field-0 c.args.map.now c.in_ok-value.ensures c.in-Map.field-0 c.in-Map.value c.in-Map.is

pub returns : goal.returns
returns c = values_none c.in_ok-value.field-0 c.args.map.now c.in_ok-value.ensures c.in_default.not-Map
