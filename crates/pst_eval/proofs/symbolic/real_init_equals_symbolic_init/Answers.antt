use Rattle.pst_eval.proofs.SymbolicTable.{init_commutes}
use Rattle.pst_eval.proofs.symbolic.real_init_equals_symbolic_init.Goals as goal

pub returns : goal.returns
returns c = λ m w results. init_commutes results m w
