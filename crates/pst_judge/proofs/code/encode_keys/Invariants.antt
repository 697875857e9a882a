use Rattle.std.proofs.Common.{◌≡◌, ◌++◌, take, length}
use Rattle.std.specs.List.{flat_map}
use Rattle.pst_judge.specs.Codes.{number_code, code_of_key}
use Rattle.pst_judge.proofs.code.encode_keys.Given as goal

abbrev pub invariant-loop-key : goal.invariant-loop-key
invariant-loop-key l = l.bytes.items ≡ (l.fn.bytes.items ++ number_code (length l.keys)) ++ flat_map code_of_key (take l.key-index l.keys)
