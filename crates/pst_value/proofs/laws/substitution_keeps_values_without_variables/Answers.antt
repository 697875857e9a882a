use Rattle.pst_value.proofs.Leaves.{substituted-none}
use Rattle.pst_value.proofs.laws.substitution_keeps_values_without_variables.Goals as goal

pub returns : goal.returns
returns c = substituted-none
