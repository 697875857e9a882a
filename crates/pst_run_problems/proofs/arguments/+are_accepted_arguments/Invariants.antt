use Rattle.std.proofs.Common.{length}
use Rattle.pst_run_problems.proofs.arguments.+are_accepted_arguments.Given as goal

abbrev pub decreases-are_accepted_arguments : goal.decreases-are_accepted_arguments
decreases-are_accepted_arguments l = length l.arguments.now
