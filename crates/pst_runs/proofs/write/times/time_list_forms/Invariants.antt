use Rattle.std.proofs.Common.{◌≡◌, map, take}
use Rattle.pst_runs.specs.Written.{times_form}
use Rattle.pst_runs.proofs.write.times.time_list_forms.Given as goal

abbrev pub invariant-loop-times : goal.invariant-loop-times
invariant-loop-times l = l.forms ≡ map times_form (take l.times-index l.branches)
