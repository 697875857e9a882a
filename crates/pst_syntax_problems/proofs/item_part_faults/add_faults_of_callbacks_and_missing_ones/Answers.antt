use Rattle.std.proofs.Common.{refl, ◌∙◌, arith}
use Rattle.pst_syntax.specs.ItemShape.{callback_shape}
use Rattle.pst_syntax.specs.ModelFaults.{is_pre, is_next, is_post}
use Rattle.pst_syntax.specs.ShownItems.{shown_callback_option}
use Rattle.pst_syntax_problems.specs.PlacedModel.{callback_faults_at, callbacks_faults_at}
use Rattle.pst_syntax_problems.specs.declared.fault.Role.TheVariants as role
use Rattle.pst_syntax_problems.proofs.Walks.{next, complete}
use Rattle.pst_syntax_problems.proofs.item_part_faults.add_faults_of_callbacks_and_missing_ones.Goals as goal

pub loop-form-preserved : goal.loop-form-preserved
loop-form-preserved c = record {
  number = omega arith;
  same = next shown_callback_option role.Callback callback_shape (callback_faults_at c.args.walk.has_maps) (λ seen. callbacks_faults_at c.args.walk.has_maps seen c.args.path.now) c.args.path.now (λ seen number form forms. refl)
      c.args.walk.limit c.loop-form.number c.loop-form.form-index c.args.forms.now c.form-item.result c.loop-form.seen _ _ _ c.callback_shape-shape.result _ c.loop-form.faults c.add_callback_faults.new.faults
      c.loop-form-test.true c.form-item.is c.loop-form.invariant.same c.in_ok-add_callback_faults.ensures (c.as_slice-in-loop-form.ensures.value ∙ c.in_ok-at.ensures) c.as_slice.ensures c.callback_shape-shape.ensures c.in_ok-push.ensures.ok;
}

pub returns : goal.returns
returns c =
    complete shown_callback_option role.Callbacks is_pre is_next is_post (λ seen. callbacks_faults_at c.args.walk.has_maps seen c.args.path.now) c.args.path.now (λ seen number. refl)
    c.args.walk.limit c.loop-form.number c.loop-form.form-index c.args.forms.now c.loop-form.seen _ c.has_all_callbacks-are_there.result _ c.loop-form.faults c.push_fault_unless.new.faults
    c.loop-form-test.false c.loop-form.invariant.same c.has_all_callbacks-are_there.ensures c.as_slice-2.ensures c.in_ok-push_fault_unless.ensures
