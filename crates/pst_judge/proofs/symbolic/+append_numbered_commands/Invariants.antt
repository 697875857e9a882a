use Rattle.std.proofs.Common.{length}
use Rattle.pst_judge.proofs.symbolic.+append_numbered_commands.Given as goal

abbrev pub decreases-append_numbered_commands : goal.decreases-append_numbered_commands
decreases-append_numbered_commands l = length l.commands.now
