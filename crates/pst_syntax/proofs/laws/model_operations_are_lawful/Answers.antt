use Rattle.pst_syntax.proofs.Operations.{model_operations}
use Rattle.pst_syntax.proofs.laws.model_operations_are_lawful.Goals as goal

pub returns : goal.returns
returns c = model_operations
