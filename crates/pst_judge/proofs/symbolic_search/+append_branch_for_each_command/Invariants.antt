use Rattle.std.proofs.Common.{length}
use Rattle.pst_judge.proofs.symbolic_search.+append_branch_for_each_command.Given as goal

abbrev pub decreases-append_branch_for_each_command : goal.decreases-append_branch_for_each_command
decreases-append_branch_for_each_command l = length l.commands.now
