use Rattle.pst_input.proofs.Found.{model_found}
use Rattle.pst_input.proofs.laws.models_end_before_json_items.Goals as goal

pub returns : goal.returns
returns c = model_found
