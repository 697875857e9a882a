use Rattle.pst_eval.proofs.SymbolicTable.{over_commutes}
use Rattle.pst_eval.proofs.symbolic.symbolic_evaluation_equals_real.Goals as goal

pub returns : goal.returns
returns c = λ m w before after is G e T h free vars env f results turns. over_commutes results free vars m w before after is G e T h env f turns
