use Rattle.std.specs.Prelude.{nat_le}
use Rattle.pst_syntax.specs.Counting.{trees_in}
use Rattle.pst_syntax.specs.ItemShape.{model_shape}
use Rattle.pst_syntax.specs.Limits.{max_trees}
use Rattle.pst_syntax.specs.declared.fault.FaultKind.TheVariants.{OverLimit}
use Rattle.pst_syntax_problems.specs.PlacedModel.{named_faults_at}
use Rattle.pst_syntax_problems.specs.declared.fault.Role.TheVariants as role
use Rattle.pst_syntax_problems.proofs.Walks.{both_unless}
use Rattle.pst_syntax_problems.proofs.model_faults.add_model_faults.Goals as goal

pub returns : goal.returns
returns c =
    both_unless c.args.walk.limit c.args.path.now role.Model c.is_model_within_tree_limit-are_few.result (nat_le (trees_in c.args.form.now) max_trees) OverLimit
    (named_faults_at c.args.path.now (model_shape c.args.form.now))
    c.args.faults.now c.push_fault_unless.new.faults c.add_model_faults_except_tree_count.new.faults c.is_model_within_tree_limit-are_few.ensures c.in_ok-push_fault_unless.ensures c.in_ok-add_model_faults_except_tree_count.ensures
