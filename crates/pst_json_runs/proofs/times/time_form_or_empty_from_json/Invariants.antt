use Rattle.std.proofs.Common.{◌≡◌, ◌++◌, drop}
use Rattle.json.specs.Value.{items_view}
use Rattle.pst_json_runs.specs.Trees.{instant_forms}
use Rattle.pst_json_runs.proofs.times.time_form_or_empty_from_json.Given as goal

abbrev pub invariant-loop-instant : goal.invariant-loop-instant
invariant-loop-instant l =
    instant_forms (items_view l.instants) ≡ l.forms ++ instant_forms (items_view (drop l.instant-index l.instants))
