use Rattle.std.proofs.Common.{◌≡◌, ◌+◌, not, length}
use Rattle.std.specs.List.{prefix_len}
use Rattle.pst_value.specs.Equality.{same_key}
use Rattle.pst_value.specs.declared.key.Key.TheVariants as kinds
use Rattle.pst_operators.proofs.maps.index_of_integer_or_len.Given as goal

abbrev pub invariant-loop-rest : goal.invariant-loop-rest
invariant-loop-rest l = (prefix_len (λ m. not (same_key m (kinds.Int l.number))) l.keys ≡ l.passed + prefix_len (λ m. not (same_key m (kinds.Int l.number))) l.rest) × (l.passed + length l.rest ≡ length l.keys)

abbrev pub decreases-loop-rest : goal.decreases-loop-rest
decreases-loop-rest l = length l.rest
