use Rattle.pst_cli.proofs.OneOutput.{OfParts, one_check_output, one_judge_output}
use Rattle.pst_cli.proofs.laws.check_and_judge_outputs_are_unique.Goals as goal

pub returns : goal.returns
returns c =
    let parts : OfParts = record {
      reading = c.bytes_have_one_reading.ensures;
      fault = c.bytes_have_one_fault.ensures;
      either = c.bytes_with_trees_have_no_fault.ensures;
      ill = c.first_ill_typed_item_is_unique.ensures;
      not_well = c.ill_typed_item_makes_model_ill_typed.ensures;
      judgement = c.judgement_is_unique.ensures;
    } in
    record { check = one_check_output parts; judge = one_judge_output parts }
