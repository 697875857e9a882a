use Rattle.std.proofs.Common.{◌≡◌, ◌++◌, drop, map, take}
use Rattle.pst_runs.specs.Written.{entries_form, value_form}
use Rattle.pst_runs.proofs.write.values.+value_form.Given as goal

abbrev pub invariant-forms_of_values-loop-value : goal.invariant-forms_of_values-loop-value
invariant-forms_of_values-loop-value l = l.forms ≡ map value_form (take l.value-index l.values)

abbrev pub invariant-map_entry_forms-loop-value : goal.invariant-map_entry_forms-loop-value
invariant-map_entry_forms-loop-value l =
    entries_form l.keys (map value_form l.values) ≡ l.entries ++ entries_form l.rest (map value_form (drop l.value-index l.values))
