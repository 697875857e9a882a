use Rattle.std.proofs.Common.{length}
use Rattle.pst_model.proofs.model.+operation_of.Given as goal

abbrev pub decreases-operation_of : goal.decreases-operation_of
decreases-operation_of l = length l.items.now
