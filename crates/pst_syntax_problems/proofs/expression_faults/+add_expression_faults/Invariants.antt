use Rattle.std.proofs.Common.{◌≡◌, ◌+◌, ◌*◌, map, drop}
use Rattle.pst_syntax.specs.Faults.{Clause, Expression}
use Rattle.pst_syntax_problems.specs.Kept.{keep}
use Rattle.pst_syntax_problems.specs.Placed.{all_at, spot_in, spots_from, expr_faults_at}
use Rattle.pst_syntax_problems.proofs.expression_faults.+add_expression_faults.Given as goal

abbrev pub decreases-add_expression_faults : goal.decreases-add_expression_faults
decreases-add_expression_faults l = 6 * l.room

abbrev pub decreases-add_faults_of_expression_parts : goal.decreases-add_faults_of_expression_parts
decreases-add_faults_of_expression_parts l = 6 * l.room + 5

abbrev pub decreases-add_expression_faults_at_part : goal.decreases-add_expression_faults_at_part
decreases-add_expression_faults_at_part l = 6 * l.room + 1

abbrev pub decreases-add_faults_of_one_operand : goal.decreases-add_faults_of_one_operand
decreases-add_faults_of_one_operand l = 6 * l.room + 3

abbrev pub decreases-add_faults_of_two_operands : goal.decreases-add_faults_of_two_operands
decreases-add_faults_of_two_operands l = 6 * l.room + 3

abbrev pub decreases-add_faults_of_three_operands : goal.decreases-add_faults_of_three_operands
decreases-add_faults_of_three_operands l = 6 * l.room + 3

abbrev pub decreases-add_let_faults : goal.decreases-add_let_faults
decreases-add_let_faults l = 6 * l.room + 3

abbrev pub decreases-add_tuple_access_faults : goal.decreases-add_tuple_access_faults
decreases-add_tuple_access_faults l = 6 * l.room + 3

abbrev pub decreases-add_list_faults : goal.decreases-add_list_faults
decreases-add_list_faults l = 6 * l.room + 4

abbrev pub decreases-add_comprehension_faults : goal.decreases-add_comprehension_faults
decreases-add_comprehension_faults l = 6 * l.room + 4

abbrev pub decreases-add_call_faults : goal.decreases-add_call_faults
decreases-add_call_faults l = 6 * l.room + 4

abbrev pub decreases-add_faults_of_expressions_from_part : goal.decreases-add_faults_of_expressions_from_part
decreases-add_faults_of_expressions_from_part l = 6 * l.room + 3

abbrev pub decreases-add_fold_faults : goal.decreases-add_fold_faults
decreases-add_fold_faults l = 6 * l.room + 3

abbrev pub decreases-add_faults_of_comprehension_clauses : goal.decreases-add_faults_of_comprehension_clauses
decreases-add_faults_of_comprehension_clauses l = 6 * l.room + 3

abbrev pub decreases-add_comprehension_clause_faults : goal.decreases-add_comprehension_clause_faults
decreases-add_comprehension_clause_faults l = 6 * l.room + 2

abbrev pub invariant-add_faults_of_expressions_from_part-loop-form : goal.invariant-add_faults_of_expressions_from_part-loop-form
invariant-add_faults_of_expressions_from_part-loop-form l = record {
  number : l.number ≡ l.form-index + l.from;
  same : keep l.walk.limit l.fn.faults (all_at (spot_in l.walk.has_maps (expr_faults_at l.walk.has_maps l.room)) (spots_from l.path l.from (map Expression l.forms)))
      ≡ keep l.walk.limit l.faults (all_at (spot_in l.walk.has_maps (expr_faults_at l.walk.has_maps l.room)) (spots_from l.path l.number (map Expression (drop l.form-index l.forms))));
}

abbrev pub invariant-add_faults_of_comprehension_clauses-loop-form : goal.invariant-add_faults_of_comprehension_clauses-loop-form
invariant-add_faults_of_comprehension_clauses-loop-form l = record {
  number : l.number ≡ l.form-index;
  same : keep l.walk.limit l.fn.faults (all_at (spot_in l.walk.has_maps (expr_faults_at l.walk.has_maps l.room)) (spots_from l.path.items 0 (map Clause l.forms)))
      ≡ keep l.walk.limit l.faults (all_at (spot_in l.walk.has_maps (expr_faults_at l.walk.has_maps l.room)) (spots_from l.path.items l.number (map Clause (drop l.form-index l.forms))));
}
