use Rattle.std.proofs.Common.{◌≡◌, map, take}
use Rattle.pst_runs.specs.Written.{time_form}
use Rattle.pst_runs.proofs.write.times.times_form.Given as goal

abbrev pub invariant-loop-time : goal.invariant-loop-time
invariant-loop-time l = l.forms ≡ map time_form (take l.time-index l.times)
