use Rattle.std.proofs.Common.{◌≡◌, ◌+◌, ◌*◌, ◌++◌, drop, Some}
use Rattle.pst_runs.specs.Values.{each, entry_value, value_in}
use Rattle.pst_sexpr.specs.Parts.{and_then}
use Rattle.pst_runs.proofs.values.+value.Given as goal

abbrev pub decreases-read_value_within_levels : goal.decreases-read_value_within_levels
decreases-read_value_within_levels l = 4 * l.room

abbrev pub decreases-read_node_value : goal.decreases-read_node_value
decreases-read_node_value l = 4 * l.room + 3

abbrev pub decreases-read_map_value : goal.decreases-read_map_value
decreases-read_map_value l = 4 * l.room + 2

abbrev pub decreases-read_map_entry_values : goal.decreases-read_map_entry_values
decreases-read_map_entry_values l = 4 * l.room + 1

abbrev pub decreases-read_values_within_levels : goal.decreases-read_values_within_levels
decreases-read_values_within_levels l = 4 * l.room + 1

abbrev pub invariant-read_values_within_levels-loop-form : goal.invariant-read_values_within_levels-loop-form
invariant-read_values_within_levels-loop-form l = each (value_in l.spelling l.room) l.forms ≡ and_then (each (value_in l.spelling l.room) (drop l.form-index l.forms)) (λ more. Some (l.values ++ more))

abbrev pub invariant-read_map_entry_values-loop-entry : goal.invariant-read_map_entry_values-loop-entry
invariant-read_map_entry_values-loop-entry l = each (entry_value (value_in l.spelling l.room)) l.entries ≡ and_then (each (entry_value (value_in l.spelling l.room)) (drop l.entry-index l.entries)) (λ more. Some (l.values ++ more))
