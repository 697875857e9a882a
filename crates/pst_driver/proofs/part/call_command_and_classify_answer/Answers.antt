use Rattle.pst_driver.proofs.Parts.{real_reply}
use Rattle.pst_driver.proofs.part.call_command_and_classify_answer.Goals as goal

pub returns : goal.returns
returns g c =
    real_reply _ _ _ _ _ _ c.called_operation.result.now c.in_ok-call.call c.called_operation.ensures c.in_ok-call.ensures
    c.make_call_and_classify_answer.ensures
