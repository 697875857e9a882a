use Rattle.std.proofs.Common.{length}
use Rattle.pst_messages.proofs.untrue_precondition.+are_results_known.Given as goal

abbrev pub decreases-are_results_known : goal.decreases-are_results_known
decreases-are_results_known l = length l.results.now
