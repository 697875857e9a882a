use Rattle.std.proofs.Common.{length}
use Rattle.pst_case.proofs.unknown.+are_open.Given as goal

abbrev pub decreases-are_open : goal.decreases-are_open
decreases-are_open l = length l.replies.now
