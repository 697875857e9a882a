use Rattle.pst_eval.proofs.SymbolicTable.{pre_commutes}
use Rattle.pst_eval.proofs.symbolic.real_pre_equals_symbolic_pre.Goals as goal

pub returns : goal.returns
returns c = λ m w results free vars op s args h. pre_commutes results free vars m op s args w h
