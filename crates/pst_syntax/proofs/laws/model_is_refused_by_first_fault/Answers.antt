use Rattle.pst_syntax.proofs.FirstOfModel.{model_same}
use Rattle.pst_syntax.proofs.laws.model_is_refused_by_first_fault.Goals as goal

pub returns : goal.returns
returns c = model_same
