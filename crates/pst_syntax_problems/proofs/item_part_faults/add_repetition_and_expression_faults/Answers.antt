use Rattle.std.proofs.Common.{not, refl}
use Rattle.pst_syntax.specs.declared.fault.FaultKind.TheVariants.{DoubleName}
use Rattle.pst_syntax_problems.specs.Placed.{below}
use Rattle.pst_syntax_problems.specs.PlacedModel.{whole_expr_at}
use Rattle.pst_syntax_problems.proofs.Walks.{both_unless}
use Rattle.pst_syntax_problems.proofs.item_part_faults.add_repetition_and_expression_faults.Goals as goal

pub returns : goal.returns
returns c =
    both_unless c.args.walk.limit c.args.path.now c.args.role (not c.args.has_one) (not c.args.has_one) DoubleName
    (whole_expr_at c.args.walk.has_maps (below c.args.path.now 1) c.args.form.now)
    c.args.faults.now c.push_fault_unless.new.faults c.add_outermost_expression_faults.new.faults refl c.in_ok-push_fault_unless.ensures c.in_ok-add_outermost_expression_faults.ensures
