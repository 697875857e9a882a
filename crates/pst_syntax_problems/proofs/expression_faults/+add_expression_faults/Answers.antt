use Rattle.std.proofs.Common.{rules, ◌≡◌, ◌≢◌, ℕ, List, map, sym, ap, ◌∙◌, Some, arith, subst, OnOk}
use Rattle.pst_syntax.specs.Faults.{Clause, Expression}
use Rattle.pst_syntax.specs.Shape.{shape_of}
use Rattle.pst_syntax_problems.specs.Kept.{keep}
use Rattle.pst_syntax_problems.specs.Placed.{below, all_at, spots_from, spots, spot_in, clause_faults_at, expr_faults_at}
use Rattle.pst_syntax_problems.specs.declared.fault.Role.TheVariants as role
use Rattle.pst_syntax.specs.declared.shape.Shape.{Shape as Borrowed}
use Rattle.pst_syntax.specs.Shown.{shown, shown_option}
use Rattle.pst_syntax_problems.proofs.Walks.{more, ended, expr_whole, with_last}
use Rattle.pst_syntax_problems.proofs.expression_faults.+add_expression_faults.Goals as goal

pub add_expression_faults-returns : goal.add_expression_faults-returns
add_expression_faults-returns t c =
    let ne : c.args.room ≢ 0 = search rules in
    let e : shape_of c.args.walk.has_maps c.args.form.now ≡ Some (shown c.in-Some.shape) = sym c.shape_of.ensures ∙ ap shown_option c.in-Some.is in
    expr_whole c.args.walk.limit c.args.walk.has_maps c.args.room role.Expression c.args.path.now c.args.form.now (shown c.in-Some.shape) c.is_expression_shape_within_limits.result
    c.args.faults.now c.push_fault_unless.new.faults c.add_faults_of_expression_parts.new.faults ne e c.is_expression_shape_within_limits.ensures c.in_ok-push_fault_unless.ensures c.in_ok-add_faults_of_expression_parts.ensures

pub add_faults_of_expressions_from_part-loop-form-preserved : goal.add_faults_of_expressions_from_part-loop-form-preserved
add_faults_of_expressions_from_part-loop-form-preserved t c = record {
  number = omega arith;
  same = more c.args.walk.limit (spot_in c.args.walk.has_maps (expr_faults_at c.args.walk.has_maps c.args.room)) Expression c.args.path.now
      c.loop-form.number c.loop-form.form-index c.args.forms.now c.form-item.result _ c.loop-form.faults c.add_expression_faults_at_part.new.faults
      c.loop-form-test.true c.form-item.is c.loop-form.invariant.same c.in_ok-add_expression_faults_at_part.ensures;
}

pub add_faults_of_expressions_from_part-returns : goal.add_faults_of_expressions_from_part-returns
add_faults_of_expressions_from_part-returns t c =
    ended c.args.walk.limit (spot_in c.args.walk.has_maps (expr_faults_at c.args.walk.has_maps c.args.room)) Expression c.args.path.now
    c.loop-form.number c.loop-form.form-index c.args.forms.now _ c.loop-form.faults
    c.loop-form-test.false c.loop-form.invariant.same

pub add_faults_of_comprehension_clauses-loop-form-preserved : goal.add_faults_of_comprehension_clauses-loop-form-preserved
add_faults_of_comprehension_clauses-loop-form-preserved t c =
    let maps = c.args.walk.has_maps in
    let a : c.as_slice.result.now ≡ c.in_ok-path.path.items = c.as_slice.ensures.value in
    let m : c.add_comprehension_clause_faults.new.faults ≡ keep c.args.walk.limit c.loop-form.faults (clause_faults_at maps (expr_faults_at maps c.args.room) role.Clause (below c.in_ok-path.path.items c.loop-form.number) c.form-item.result)
    = c.in_ok-add_comprehension_clause_faults.ensures ∙ ap (λ (path : List ℕ). keep c.args.walk.limit c.loop-form.faults (clause_faults_at maps (expr_faults_at maps c.args.room) role.Clause (below path c.loop-form.number) c.form-item.result)) a in
    record {
      number = omega arith;
      same = more c.args.walk.limit (spot_in c.args.walk.has_maps (expr_faults_at c.args.walk.has_maps c.args.room)) Clause c.in_ok-path.path.items
          c.loop-form.number c.loop-form.form-index c.args.forms.now c.form-item.result _ c.loop-form.faults c.add_comprehension_clause_faults.new.faults
          c.loop-form-test.true c.form-item.is c.loop-form.invariant.same m;
    }

pub add_faults_of_comprehension_clauses-returns : goal.add_faults_of_comprehension_clauses-returns
add_faults_of_comprehension_clauses-returns t c =
    let p : c.in_ok-path.path.items ≡ below c.args.path.now 1 = c.in_ok-path.ensures in
    ended c.args.walk.limit (spot_in c.args.walk.has_maps (expr_faults_at c.args.walk.has_maps c.args.room)) Clause c.in_ok-path.path.items
    c.loop-form.number c.loop-form.form-index c.args.forms.now _ c.loop-form.faults
    c.loop-form-test.false c.loop-form.invariant.same
    ∙ ap (λ (path : List ℕ). keep c.args.walk.limit c.args.faults.now (all_at (spot_in c.args.walk.has_maps (expr_faults_at c.args.walk.has_maps c.args.room)) (spots_from path 0 (map Clause c.args.forms.now)))) p

pub add_comprehension_faults-returns : goal.add_comprehension_faults-returns
add_comprehension_faults-returns t c =
    with_last c.args.walk.limit (spot_in c.args.walk.has_maps (expr_faults_at c.args.walk.has_maps c.args.room))
    (spots_from (below c.args.path.now 1) 0 (map Clause c.args.parts.now)) (record { path = below c.args.path.now 2; role = role.Expression; part = Expression c.args.body.now })
    c.args.faults.now c.add_faults_of_comprehension_clauses.new.faults c.add_expression_faults_at_part.new.faults c.in_ok-add_faults_of_comprehension_clauses.ensures c.in_ok-add_expression_faults_at_part.ensures

pub add_faults_of_expression_parts-returns-in-Map : goal.add_faults_of_expression_parts-returns-in-Map
add_faults_of_expression_parts-returns-in-Map t c =
    subst (λ (shape : Borrowed). OnOk c.add_map_value_type_faults.result (c.add_map_value_type_faults.new.faults ≡ keep c.args.walk.limit c.args.faults.now
    (all_at (spot_in c.args.walk.has_maps (expr_faults_at c.args.walk.has_maps c.args.room)) (spots c.args.walk.has_maps c.args.path.now (shown shape)))))
    (sym c.in-Map.is) (c.add_map_value_type_faults.ensures (expr_faults_at c.args.walk.has_maps c.args.room))
