use Rattle.std.proofs.Common.{◌≡◌, ℕ, List, [], ap, ◌∙◌}
use Rattle.pst_syntax.specs.Reading.{are_few}
use Rattle.pst_syntax.specs.declared.fault.FaultKind.TheVariants.{OverLimit}
use Rattle.pst_syntax_problems.specs.Kept.{keep}
use Rattle.pst_syntax_problems.specs.Placed.{below}
use Rattle.pst_syntax_problems.specs.PlacedModel.{params_after_at, params_faults_at}
use Rattle.pst_syntax_problems.specs.declared.fault.Role.TheVariants as role
use Rattle.pst_syntax_problems.proofs.Walks.{both_unless}
use Rattle.pst_syntax_problems.proofs.item_part_faults.add_parameter_list_faults.Goals as goal

pub returns : goal.returns
returns c =
    let p : c.as_slice-path.result.now ≡ below c.args.path.now 2 = c.as_slice-path.ensures.value ∙ c.in_ok-path.ensures in
    both_unless c.args.walk.limit c.as_slice-path.result.now role.Parameters c.is_allowed_parameter_count-are_few.result (are_few c.args.forms.now) OverLimit
    (params_after_at c.args.walk.has_maps [] c.as_slice-path.result.now 0 c.args.forms.now)
    c.args.faults.now c.push_fault_unless.new.faults c.add_faults_of_each_parameter.new.faults c.is_allowed_parameter_count-are_few.ensures c.in_ok-push_fault_unless.ensures c.in_ok-add_faults_of_each_parameter.ensures
    ∙ ap (λ (path : List ℕ). keep c.args.walk.limit c.args.faults.now (params_faults_at c.args.walk.has_maps path c.args.forms.now)) p
