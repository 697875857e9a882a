use Rattle.pst_judge.proofs.replay.PostconditionsCondition.evaluate_on_event.Goals as goal

pub returns-in-Ok : goal.returns-in-Ok
returns-in-Ok g c =
    let says = rw (c.in-Ok.is, c.as_slice.ensures) at c.in_ok-answer.ensures.says in
    ((c.in-Ok.answer, c.in-Ok.field-0-1), says, c.bool_of_value.ensures)
