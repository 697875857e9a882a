use Rattle.std.proofs.Common.{length}
use Rattle.pst_model.proofs.model.+find_command_expression.Given as goal

abbrev pub decreases-find_command_expression : goal.decreases-find_command_expression
decreases-find_command_expression l = length l.items.now
