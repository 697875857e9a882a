use Rattle.std.proofs.Common.{refl, ◌∙◌, arith}
use Rattle.pst_syntax.specs.ItemShape.{item_shape}
use Rattle.pst_syntax.specs.ModelFaults.{is_state, is_init, is_command}
use Rattle.pst_syntax.specs.ShownItems.{shown_item_option}
use Rattle.pst_syntax_problems.specs.PlacedModel.{item_faults_at, items_faults_at}
use Rattle.pst_syntax_problems.specs.declared.fault.Role.TheVariants as role
use Rattle.pst_syntax_problems.proofs.Walks.{next, complete}
use Rattle.pst_syntax_problems.proofs.model_faults.add_faults_of_items_and_missing_ones.Goals as goal

pub loop-form-preserved : goal.loop-form-preserved
loop-form-preserved c = record {
  number = omega arith;
  same = next shown_item_option role.Item item_shape (item_faults_at c.args.walk.has_maps) (λ seen. items_faults_at c.args.walk.has_maps seen c.args.path.now) c.args.path.now (λ seen number form forms. refl)
      c.args.walk.limit c.loop-form.number c.loop-form.form-index c.args.forms.now c.form-item.result c.loop-form.seen _ _ _ c.item_shape-shape.result _ c.loop-form.faults c.add_item_faults.new.faults
      c.loop-form-test.true c.form-item.is c.loop-form.invariant.same c.in_ok-add_item_faults.ensures (c.as_slice-in-loop-form.ensures.value ∙ c.in_ok-at.ensures) c.as_slice.ensures c.item_shape-shape.ensures c.in_ok-push.ensures.ok;
}

pub returns : goal.returns
returns c =
    complete shown_item_option role.Model is_state is_init is_command (λ seen. items_faults_at c.args.walk.has_maps seen c.args.path.now) c.args.path.now (λ seen number. refl)
    c.args.walk.limit c.loop-form.number c.loop-form.form-index c.args.forms.now c.loop-form.seen _ c.has_required_items-are_there.result _ c.loop-form.faults c.push_fault_unless.new.faults
    c.loop-form-test.false c.loop-form.invariant.same c.has_required_items-are_there.ensures c.as_slice-2.ensures c.in_ok-push_fault_unless.ensures
