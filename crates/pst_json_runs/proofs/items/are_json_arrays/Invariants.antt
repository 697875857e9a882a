use Rattle.std.proofs.Common.{◌≡◌, drop}
use Rattle.json.specs.Value.{items_view}
use Rattle.pst_json_runs.specs.Trees.{are_arrays}
use Rattle.pst_json_runs.proofs.items.are_json_arrays.Given as goal

abbrev pub invariant-loop-part : goal.invariant-loop-part
invariant-loop-part l =
    are_arrays (items_view l.parts) ≡ are_arrays (items_view (drop l.part-index l.parts))
