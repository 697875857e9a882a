use Rattle.pst_typing.proofs.WellItems.{all_well, least_ill}
use Rattle.pst_typing.proofs.laws.search_finds_first_ill_typed_item.Goals as goal

pub returns : goal.returns
returns c = record { none = all_well; some = least_ill }
