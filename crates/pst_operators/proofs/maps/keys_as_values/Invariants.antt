use Rattle.std.proofs.Common.{◌≡◌, take, map}
use Rattle.pst_operators.specs.Maps.{value_of}
use Rattle.pst_operators.proofs.maps.keys_as_values.Given as goal

abbrev pub invariant-loop-key : goal.invariant-loop-key
invariant-loop-key l = l.values ≡ map value_of (take l.key-index l.keys)
