use Rattle.std.proofs.Common.{◌≡◌, take}
use Rattle.pst_case.proofs.history.copy_times.Given as goal

abbrev pub invariant-loop-calls : goal.invariant-loop-calls
invariant-loop-calls l = l.copies ≡ take l.calls-index l.times
