use Rattle.std.proofs.Common.{length}
use Rattle.pst_typing.proofs.scope.+kind_of_outer_name.Given as goal

abbrev pub decreases-kind_of_outer_name : goal.decreases-kind_of_outer_name
decreases-kind_of_outer_name l = length l.seen.now
