use Rattle.std.proofs.Common.{length}
use Rattle.pst_reasons.proofs.cores.+leave_commands_out_of_core_if_possible.Given as goal

abbrev pub decreases-leave_commands_out_of_core_if_possible : goal.decreases-leave_commands_out_of_core_if_possible
decreases-leave_commands_out_of_core_if_possible g l = length l.first.now
