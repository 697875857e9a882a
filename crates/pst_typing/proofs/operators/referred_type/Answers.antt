use Rattle.pst_typing.proofs.Formed.{referred_some, referred_none}
use Rattle.pst_typing.proofs.operators.referred_type.Goals as goal

pub returns-in-Ref : goal.returns-in-Ref
returns-in-Ref c = referred_some c.in_ok-named.field-0 c.args.reference.now c.in_ok-named.ensures c.in-Ref.named c.in-Ref.is

pub returns : goal.returns
returns c = referred_none c.in_ok-named.field-0 c.args.reference.now c.in_ok-named.ensures c.in_default.not-Ref
