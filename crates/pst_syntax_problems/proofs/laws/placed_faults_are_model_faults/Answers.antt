use Rattle.pst_syntax_problems.proofs.UnplacedModel.{model_same}
use Rattle.pst_syntax_problems.proofs.laws.placed_faults_are_model_faults.Goals as goal

pub returns : goal.returns
returns c = model_same
