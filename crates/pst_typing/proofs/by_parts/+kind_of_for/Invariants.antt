use Rattle.std.proofs.Common.{length}
use Rattle.pst_typing.proofs.by_parts.+kind_of_for.Given as goal

abbrev pub decreases-kind_of_for : goal.decreases-kind_of_for
decreases-kind_of_for l = length l.kinds.now
