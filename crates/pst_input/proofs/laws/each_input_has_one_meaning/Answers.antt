use Rattle.pst_input.proofs.One.{OfParts, one_meaning}
use Rattle.pst_input.proofs.laws.each_input_has_one_meaning.Goals as goal

pub returns : goal.returns
returns c =
    let parts : OfParts = record {
      reading = c.bytes_have_one_reading.ensures;
      either = c.bytes_with_trees_have_no_fault.ensures;
      not_well = c.ill_typed_item_makes_model_ill_typed.ensures;
    } in
    one_meaning parts
