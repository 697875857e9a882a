use Rattle.std.proofs.Common.{rules, ◌≡◌, ◌≢◌, sym, ap, ◌∙◌, Some, arith}
use Rattle.pst_syntax.specs.Faults.{OfType}
use Rattle.pst_syntax.specs.Shape.{ty_shape}
use Rattle.pst_syntax_problems.specs.Placed.{none_at, spot_at, ty_faults_at}
use Rattle.pst_syntax.specs.Shown.{shown_ty, shown_ty_option}
use Rattle.pst_syntax_problems.proofs.Walks.{more, ended, ty_whole}
use Rattle.pst_syntax_problems.proofs.type_faults.+add_type_faults.Goals as goal

pub add_type_faults-returns : goal.add_type_faults-returns
add_type_faults-returns t c =
    let ne : c.args.room ≢ 0 = search rules in
    let e : ty_shape c.args.walk.has_maps c.args.form.now ≡ Some (shown_ty c.in-Some.shape) = sym c.ty_shape.ensures ∙ ap shown_ty_option c.in-Some.is in
    ty_whole c.args.walk.limit c.args.walk.has_maps c.args.room c.args.role c.args.path.now c.args.form.now (shown_ty c.in-Some.shape) c.is_type_shape_within_limits.result
    c.args.faults.now c.push_fault_unless.new.faults c.add_faults_of_type_parts.new.faults ne e c.is_type_shape_within_limits.ensures c.in_ok-push_fault_unless.ensures c.in_ok-add_faults_of_type_parts.ensures

pub add_faults_of_tuple_item_types-loop-form-preserved : goal.add_faults_of_tuple_item_types-loop-form-preserved
add_faults_of_tuple_item_types-loop-form-preserved t c = record {
  number = omega arith;
  same = more c.args.walk.limit (spot_at none_at (λ inner. ty_faults_at c.args.walk.has_maps c.args.room c.args.role) none_at) OfType c.args.path.now
      c.loop-form.number c.loop-form.form-index c.args.forms.now c.form-item.result _ c.loop-form.faults c.add_type_faults_at_part.new.faults
      c.loop-form-test.true c.form-item.is c.loop-form.invariant.same c.in_ok-add_type_faults_at_part.ensures;
}

pub add_faults_of_tuple_item_types-returns : goal.add_faults_of_tuple_item_types-returns
add_faults_of_tuple_item_types-returns t c =
    ended c.args.walk.limit (spot_at none_at (λ inner. ty_faults_at c.args.walk.has_maps c.args.room c.args.role) none_at) OfType c.args.path.now
    c.loop-form.number c.loop-form.form-index c.args.forms.now _ c.loop-form.faults
    c.loop-form-test.false c.loop-form.invariant.same
