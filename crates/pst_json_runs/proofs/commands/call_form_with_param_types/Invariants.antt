use Rattle.std.proofs.Common.{◌≡◌, ◌∷◌, ◌++◌, drop}
use Rattle.json.specs.Value.{items_view}
use Rattle.pst_json_runs.specs.Trees.{argument_forms, name_form}
use Rattle.pst_json_runs.proofs.commands.call_form_with_param_types.Given as goal

abbrev pub invariant-loop-arg : goal.invariant-loop-arg
invariant-loop-arg l =
    name_form l.name ∷ argument_forms l.initial.rest (items_view l.args) ≡ l.forms ++ argument_forms l.rest (items_view (drop l.arg-index l.args))
