use Rattle.std.proofs.Common.{◌≡◌, ◌++◌, take, length}
use Rattle.std.specs.List.{flat_map}
use Rattle.pst_judge.specs.Codes.{number_code, code}
use Rattle.pst_judge.proofs.code.+encode_value.Given as goal

abbrev pub invariant-encode_values-loop-value : goal.invariant-encode_values-loop-value
invariant-encode_values-loop-value l = l.bytes.items ≡ (l.fn.bytes.items ++ number_code (length l.values)) ++ flat_map code (take l.value-index l.values)
