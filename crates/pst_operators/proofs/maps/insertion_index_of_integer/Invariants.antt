use Rattle.std.proofs.Common.{◌≡◌, ◌+◌, length}
use Rattle.std.specs.List.{prefix_len}
use Rattle.pst_value.specs.Keys.{key_less}
use Rattle.pst_value.specs.declared.key.Key.TheVariants as kinds
use Rattle.pst_operators.proofs.maps.insertion_index_of_integer.Given as goal

abbrev pub invariant-loop-rest : goal.invariant-loop-rest
invariant-loop-rest l = (prefix_len (λ m. key_less m (kinds.Int l.number)) l.keys ≡ l.passed + prefix_len (λ m. key_less m (kinds.Int l.number)) l.rest) × (l.passed + length l.rest ≡ length l.keys)

abbrev pub decreases-loop-rest : goal.decreases-loop-rest
decreases-loop-rest l = length l.rest
