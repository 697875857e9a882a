use Rattle.pst_typing.proofs.WellItems.{passed_is_well, well_is_passed}
use Rattle.pst_typing.proofs.laws.item_check_agrees_with_rules.Goals as goal

pub returns : goal.returns
returns c = record { passed = passed_is_well; well = well_is_passed }
