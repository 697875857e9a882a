use Rattle.std.proofs.Common.{length}
use Rattle.pst_run_problems.proofs.command.+add_result_types_of_parts.Given as goal

abbrev pub decreases-add_result_types_of_parts : goal.decreases-add_result_types_of_parts
decreases-add_result_types_of_parts l = length l.parts.now
