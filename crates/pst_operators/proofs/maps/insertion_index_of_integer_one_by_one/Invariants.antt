use Rattle.std.proofs.Common.{◌≡◌, ◌+◌, drop}
use Rattle.std.specs.List.{prefix_len}
use Rattle.pst_value.specs.Keys.{key_less}
use Rattle.pst_value.specs.declared.key.Key.TheVariants as kinds
use Rattle.pst_operators.proofs.maps.insertion_index_of_integer_one_by_one.Given as goal

abbrev pub invariant-loop-i : goal.invariant-loop-i
invariant-loop-i l = prefix_len (λ m. key_less m (kinds.Int l.number)) l.keys ≡ l.i + prefix_len (λ m. key_less m (kinds.Int l.number)) (drop l.i l.keys)
