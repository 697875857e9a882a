use Rattle.pst_eval.proofs.SymbolicTable.{next_commutes}
use Rattle.pst_eval.proofs.symbolic.real_next_equals_symbolic_next.Goals as goal

pub returns : goal.returns
returns c = λ m w results free vars op s args r h. next_commutes results free vars m op s args r w h
