use Rattle.pst_typing.proofs.OneIll.{one_ill}
use Rattle.pst_typing.proofs.laws.first_ill_typed_item_is_unique.Goals as goal

pub returns : goal.returns
returns c = one_ill
