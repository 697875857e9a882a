use Rattle.pst_eval.proofs.Unused.{same_next}
use Rattle.pst_eval.proofs.names.unnamed_results_change_nothing.Goals as goal

pub returns : goal.returns
returns c = λ m op n s args r other. same_next m op n s args r other
