use Rattle.std.proofs.Common.{length}
use Rattle.pst_reasons.proofs.cores.+count_branch_commands.Given as goal

abbrev pub decreases-count_branch_commands : goal.decreases-count_branch_commands
decreases-count_branch_commands l = length l.branches.now
