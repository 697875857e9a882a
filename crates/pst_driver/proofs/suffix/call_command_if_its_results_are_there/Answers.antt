use Rattle.pst_driver.proofs.Parts.{late_called, late_skipped}
use Rattle.pst_driver.proofs.suffix.call_command_if_its_results_are_there.Goals as goal

pub returns-then-any_holds_banned_variable : goal.returns-then-any_holds_banned_variable
returns-then-any_holds_banned_variable g c =
    late_skipped _ _ _ _ _ c.called_operation.result.now c.in_ok-call.call c.as_slice.result.now c.any_holds_banned_variable.result
    c.called_operation.ensures c.in_ok-call.ensures c.as_slice.ensures c.any_holds_banned_variable.ensures c.if-any_holds_banned_variable.true

pub returns : goal.returns
returns g c =
    late_called _ _ _ _ _ _ c.called_operation.result.now c.in_ok-call.call c.as_slice.result.now c.any_holds_banned_variable.result
    c.called_operation.ensures c.in_ok-call.ensures c.as_slice.ensures c.any_holds_banned_variable.ensures c.if-any_holds_banned_variable.false
    c.make_call_and_classify_answer.ensures
