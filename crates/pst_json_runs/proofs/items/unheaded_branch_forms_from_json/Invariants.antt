use Rattle.std.proofs.Common.{◌≡◌, ◌++◌, drop}
use Rattle.json.specs.Value.{items_view}
use Rattle.pst_json_runs.specs.Trees.{branch_forms}
use Rattle.pst_json_runs.proofs.items.unheaded_branch_forms_from_json.Given as goal

abbrev pub invariant-loop-branch : goal.invariant-loop-branch
invariant-loop-branch l =
    branch_forms l.model (items_view l.branches) ≡ l.forms ++ branch_forms l.model (items_view (drop l.branch-index l.branches))
