use Rattle.std.proofs.Common.{length}
use Rattle.pst_typing.proofs.by_parts.+are_kinds_of_parameters.Given as goal

abbrev pub decreases-are_kinds_of_parameters : goal.decreases-are_kinds_of_parameters
decreases-are_kinds_of_parameters l = length l.kinds.now
