use Rattle.std.proofs.Common.{length}
use Rattle.pst_driver.proofs.crew.+do_commands_call_known_operations.Given as goal

abbrev pub decreases-do_commands_call_known_operations : goal.decreases-do_commands_call_known_operations
decreases-do_commands_call_known_operations l = length l.commands.now
