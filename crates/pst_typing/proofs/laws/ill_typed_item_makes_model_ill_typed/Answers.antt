use Rattle.pst_typing.proofs.Judging.{ill_not_well}
use Rattle.pst_typing.proofs.laws.ill_typed_item_makes_model_ill_typed.Goals as goal

pub returns : goal.returns
returns c = ill_not_well
