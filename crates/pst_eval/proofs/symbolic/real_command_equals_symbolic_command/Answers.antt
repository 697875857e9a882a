use Rattle.pst_eval.proofs.SymbolicTable.{command_commutes}
use Rattle.pst_eval.proofs.symbolic.real_command_equals_symbolic_command.Goals as goal

pub returns : goal.returns
returns c = λ m w results free vars s h. command_commutes results free vars m s w h
