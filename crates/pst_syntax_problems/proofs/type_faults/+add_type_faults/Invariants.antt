use Rattle.std.proofs.Common.{◌≡◌, ◌+◌, ◌*◌, map, drop}
use Rattle.pst_syntax.specs.Faults.{OfType}
use Rattle.pst_syntax_problems.specs.Kept.{keep}
use Rattle.pst_syntax_problems.specs.Placed.{all_at, none_at, spot_at, spots_from, ty_faults_at}
use Rattle.pst_syntax_problems.proofs.type_faults.+add_type_faults.Given as goal

abbrev pub decreases-add_type_faults : goal.decreases-add_type_faults
decreases-add_type_faults l = 4 * l.room

abbrev pub decreases-add_faults_of_type_parts : goal.decreases-add_faults_of_type_parts
decreases-add_faults_of_type_parts l = 4 * l.room + 3

abbrev pub decreases-add_faults_of_tuple_item_types : goal.decreases-add_faults_of_tuple_item_types
decreases-add_faults_of_tuple_item_types l = 4 * l.room + 2

abbrev pub decreases-add_inner_type_faults : goal.decreases-add_inner_type_faults
decreases-add_inner_type_faults l = 4 * l.room + 2

abbrev pub decreases-add_type_faults_at_part : goal.decreases-add_type_faults_at_part
decreases-add_type_faults_at_part l = 4 * l.room + 1

abbrev pub invariant-add_faults_of_tuple_item_types-loop-form : goal.invariant-add_faults_of_tuple_item_types-loop-form
invariant-add_faults_of_tuple_item_types-loop-form l = record {
  number : l.number ≡ l.form-index + 1;
  same : keep l.walk.limit l.fn.faults (all_at (spot_at none_at (λ inner. ty_faults_at l.walk.has_maps l.room l.role) none_at) (spots_from l.path 1 (map OfType l.forms)))
      ≡ keep l.walk.limit l.faults (all_at (spot_at none_at (λ inner. ty_faults_at l.walk.has_maps l.room l.role) none_at) (spots_from l.path l.number (map OfType (drop l.form-index l.forms))));
}
