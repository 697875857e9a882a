use Rattle.std.proofs.Common.{length}
use Rattle.pst_case.proofs.case.+count_commands_of_branches.Given as goal

abbrev pub decreases-count_commands_of_branches : goal.decreases-count_commands_of_branches
decreases-count_commands_of_branches g l = length l.branches.now
