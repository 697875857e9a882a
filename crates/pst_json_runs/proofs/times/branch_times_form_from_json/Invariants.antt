use Rattle.std.proofs.Common.{◌≡◌, ◌++◌, drop}
use Rattle.json.specs.Value.{items_view}
use Rattle.pst_json_runs.specs.Trees.{time_forms}
use Rattle.pst_json_runs.proofs.times.branch_times_form_from_json.Given as goal

abbrev pub invariant-loop-time : goal.invariant-loop-time
invariant-loop-time l =
    time_forms (items_view l.times) ≡ l.forms ++ time_forms (items_view (drop l.time-index l.times))
