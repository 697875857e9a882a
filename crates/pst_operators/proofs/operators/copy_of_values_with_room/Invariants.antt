use Rattle.std.proofs.Common.{◌≡◌, take}
use Rattle.pst_operators.proofs.operators.copy_of_values_with_room.Given as goal

abbrev pub invariant-loop-item : goal.invariant-loop-item
invariant-loop-item l = l.all ≡ take l.item-index l.items
