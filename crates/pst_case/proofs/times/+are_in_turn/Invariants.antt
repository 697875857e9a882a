use Rattle.std.proofs.Common.{length}
use Rattle.pst_case.proofs.times.+are_in_turn.Given as goal

abbrev pub decreases-are_in_turn : goal.decreases-are_in_turn
decreases-are_in_turn l = length l.calls.now
