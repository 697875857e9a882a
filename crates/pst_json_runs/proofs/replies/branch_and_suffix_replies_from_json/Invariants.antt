use Rattle.std.proofs.Common.{◌≡◌, ◌++◌, drop}
use Rattle.json.specs.Value.{items_view}
use Rattle.pst_json_runs.specs.Shown.{shown}
use Rattle.pst_json_runs.specs.Trees.{rest_forms}
use Rattle.pst_json_runs.proofs.replies.branch_and_suffix_replies_from_json.Given as goal

abbrev pub invariant-loop-list : goal.invariant-loop-list
invariant-loop-list l =
    rest_forms l.model (items_view l.initial.rest) (shown l.suffix) (items_view l.lists)
    ≡ l.forms ++ rest_forms l.model (items_view l.rest) (shown l.suffix) (items_view (drop l.list-index l.lists))
