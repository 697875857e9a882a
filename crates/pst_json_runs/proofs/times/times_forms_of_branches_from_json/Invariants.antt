use Rattle.std.proofs.Common.{◌≡◌, ◌++◌, drop}
use Rattle.json.specs.Value.{items_view}
use Rattle.pst_json_runs.specs.Trees.{times_in}
use Rattle.pst_json_runs.proofs.times.times_forms_of_branches_from_json.Given as goal

abbrev pub invariant-loop-list : goal.invariant-loop-list
invariant-loop-list l =
    times_in (items_view l.lists) ≡ l.forms ++ times_in (items_view (drop l.list-index l.lists))
