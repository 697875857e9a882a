use Rattle.std.proofs.Common.{length}
use Rattle.pst_model.proofs.model.+find_state_type.Given as goal

abbrev pub decreases-find_state_type : goal.decreases-find_state_type
decreases-find_state_type l = length l.items.now
