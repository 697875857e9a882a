use Rattle.std.proofs.Common.{length}
use Rattle.pst_model.proofs.model.+operation_number.Given as goal

abbrev pub decreases-operation_number : goal.decreases-operation_number
decreases-operation_number l = length l.items.now
