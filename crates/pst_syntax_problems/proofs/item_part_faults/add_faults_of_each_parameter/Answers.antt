use Rattle.std.proofs.Common.{refl, sym, ◌∙◌, arith}
use Rattle.pst_syntax.specs.ItemShape.{param_shape}
use Rattle.pst_syntax.specs.ShownItems.{shown_param_option}
use Rattle.pst_syntax_problems.specs.PlacedModel.{param_faults_at, params_after_at}
use Rattle.pst_syntax_problems.specs.SeenShapes.{params_in}
use Rattle.pst_syntax_problems.specs.declared.fault.Role.TheVariants as role
use Rattle.pst_syntax_problems.proofs.Keeping.{keep_none}
use Rattle.pst_syntax_problems.proofs.Walks.{next, last}
use Rattle.pst_syntax_problems.proofs.item_part_faults.add_faults_of_each_parameter.Goals as goal

pub loop-form-preserved : goal.loop-form-preserved
loop-form-preserved c = record {
  number = omega arith;
  same = next shown_param_option role.Parameter param_shape (param_faults_at c.args.walk.has_maps) (λ seen. params_after_at c.args.walk.has_maps seen c.args.path.now) c.args.path.now (λ seen number form forms. refl)
      c.args.walk.limit c.loop-form.number c.loop-form.form-index c.args.forms.now c.form-item.result c.loop-form.seen _ _ _ c.param_shape-shape.result _ c.loop-form.faults c.add_parameter_faults.new.faults
      c.loop-form-test.true c.form-item.is c.loop-form.invariant.same c.in_ok-add_parameter_faults.ensures (c.as_slice-in-loop-form.ensures.value ∙ c.in_ok-at.ensures) c.as_slice.ensures c.param_shape-shape.ensures c.in_ok-push.ensures.ok;
}

pub returns : goal.returns
returns c =
    sym (last (λ seen. params_after_at c.args.walk.has_maps seen c.args.path.now) c.args.walk.limit c.loop-form.number c.loop-form.form-index c.args.forms.now
    (params_in c.loop-form.seen) _ c.loop-form.faults c.loop-form-test.false c.loop-form.invariant.same ∙ keep_none c.args.walk.limit c.loop-form.faults)
