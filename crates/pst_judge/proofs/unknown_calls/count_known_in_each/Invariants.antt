use Rattle.std.proofs.Common.{◌≡◌, take, map}
use Rattle.pst_judge.specs.UnknownCalls.{known_count}
use Rattle.pst_judge.proofs.unknown_calls.count_known_in_each.Given as goal

abbrev pub invariant-loop-calls : goal.invariant-loop-calls
invariant-loop-calls l = l.counts.items ≡ map known_count (take l.calls-index l.columns)
