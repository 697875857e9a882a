use Rattle.std.proofs.Common.{◌≡◌, take, map, length}
use Rattle.pst_judge.proofs.unknown_calls.count_calls_in_each.Given as goal

abbrev pub invariant-loop-calls : goal.invariant-loop-calls
invariant-loop-calls l = l.counts.items ≡ map length (take l.calls-index l.columns)
