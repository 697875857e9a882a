-- The views of arrays and objects, and what is in them.
use Rattle.json.proofs.Trees.{view-Array, view-Object}
use Rattle.pst_json_runs.proofs.Wanted.{count-items, size-members}

pub ruleset views = (view-Array, view-Object, count-items, size-members)
