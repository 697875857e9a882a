use Rattle.std.proofs.Common.{length}
use Rattle.pst_judge.proofs.unknown_search.+are_reached.Given as goal

abbrev pub decreases-are_reached : goal.decreases-are_reached
decreases-are_reached l = length l.counts.now
