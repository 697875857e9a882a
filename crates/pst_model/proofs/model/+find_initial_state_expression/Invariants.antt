use Rattle.std.proofs.Common.{length}
use Rattle.pst_model.proofs.model.+find_initial_state_expression.Given as goal

abbrev pub decreases-find_initial_state_expression : goal.decreases-find_initial_state_expression
decreases-find_initial_state_expression l = length l.items.now
