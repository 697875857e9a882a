use Rattle.std.proofs.Common.{◌≡◌, false, take}
use Rattle.std.specs.List.{list_any}
use Rattle.pst_value.specs.Holds.{holds}
use Rattle.pst_judge.proofs.unknown_calls.is_used_by_any.Given as goal

abbrev pub invariant-loop-value : goal.invariant-loop-value
invariant-loop-value l = list_any (holds l.number) (take l.value-index l.values) ≡ false
