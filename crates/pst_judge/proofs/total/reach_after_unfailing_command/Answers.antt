use Rattle.std.proofs.Common.{sym, ap, ◌∙◌}
use Rattle.pst_judge.proofs.Passing.{some_step}
use Rattle.pst_model.specs.declared.expr.Expr.TheVariants as expr
use Rattle.pst_judge.proofs.total.reach_after_unfailing_command.Goals as goal

pub returns-in-Bool-true : goal.returns-in-Bool-true
returns-in-Bool-true c =
    some_step c.args.model.now c.in_ok-operation.operation.now c.args.command.now c.args.reach c.reach_of_value.result c.as_slice-in-Bool-true.result c.as_slice-in-Bool-true-2.result c.reach_of_expression.result
    (sym (rw c.as_slice.ensures at c.in_ok-operation.ensures)) (c.in-Bool-true.is ∙ ap expr.Bool (sym c.in-Bool-true.field-0-is ∙ c.in-Bool-true.field-0-test))
    c.as_slice-in-Bool-true.ensures c.as_slice-in-Bool-true-2.ensures c.reach_of_value.ensures c.reach_of_expression.ensures
