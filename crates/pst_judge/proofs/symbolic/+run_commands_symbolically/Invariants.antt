use Rattle.std.proofs.Common.{length}
use Rattle.pst_judge.proofs.symbolic.+run_commands_symbolically.Given as goal

abbrev pub decreases-run_commands_symbolically : goal.decreases-run_commands_symbolically
decreases-run_commands_symbolically g l = length l.commands.now
