use Rattle.pst_syntax.proofs.Operations.{model_language}
use Rattle.pst_syntax.proofs.laws.plain_model_types_have_no_maps.Goals as goal

pub returns : goal.returns
returns c = model_language
