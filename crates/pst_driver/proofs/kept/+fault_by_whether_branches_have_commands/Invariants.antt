use Rattle.std.proofs.Common.{length}
use Rattle.pst_driver.proofs.kept.+fault_by_whether_branches_have_commands.Given as goal

abbrev pub decreases-fault_by_whether_branches_have_commands : goal.decreases-fault_by_whether_branches_have_commands
decreases-fault_by_whether_branches_have_commands l = length l.branches.now
