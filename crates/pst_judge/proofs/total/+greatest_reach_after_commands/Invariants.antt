use Rattle.std.proofs.Common.{length}
use Rattle.pst_judge.proofs.total.+greatest_reach_after_commands.Given as goal

abbrev pub decreases-greatest_reach_after_commands : goal.decreases-greatest_reach_after_commands
decreases-greatest_reach_after_commands l = length l.commands.now
