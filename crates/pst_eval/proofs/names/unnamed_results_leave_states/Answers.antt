use Rattle.pst_eval.proofs.Unused.{next_is_state}
use Rattle.pst_eval.proofs.names.unnamed_results_leave_states.Goals as goal

pub returns : goal.returns
returns c = λ m w op n vars number o is place s args r p h a e. next_is_state m op n w vars number o is place s args r p h a e
