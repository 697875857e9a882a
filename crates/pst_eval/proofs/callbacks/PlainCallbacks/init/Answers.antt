use Rattle.std.proofs.Common.{sym, ◌∙◌}
use Rattle.pst_eval.proofs.Calls.{says_at, init_is, init_starts, init_gives}
use Rattle.pst_eval.proofs.callbacks.PlainCallbacks.init.Goals as goal

pub unreachable-requires : goal.unreachable-requires
unreachable-requires c =
    let none = rw (c.in_default.is, c.as_slice.ensures) at c.find_initial_state_expression.ensures in
    let some = c.source-model.ensures.well.opening_is in
    absurd (cc)

pub eval_with_max_turns-requires : goal.eval_with_max_turns-requires
eval_with_max_turns-requires c = λ stuck. init_starts c.source-model.result.now c.source-model.ensures.well ((init_is c.source-model.result.now c.in-Some.opening.now (sym (rw (c.in-Some.is, c.as_slice.ensures) at c.find_initial_state_expression.ensures))) ∙ stuck)

pub returns-clause-says : goal.returns-clause-says
returns-clause-says c = rw (sym c.source-model.ensures.same) (says_at _ _ c.eval_with_max_turns.result (sym (init_is c.source-model.result.now c.in-Some.opening.now (sym (rw (c.in-Some.is, c.as_slice.ensures) at c.find_initial_state_expression.ensures)))) c.eval_with_max_turns.ensures)

pub returns-clause-fits : goal.returns-clause-fits
returns-clause-fits c = rw (sym c.source-model.ensures.same) (init_gives c.source-model.result.now c.eval_with_max_turns.result c.source-model.ensures.well (says_at _ _ c.eval_with_max_turns.result (sym (init_is c.source-model.result.now c.in-Some.opening.now (sym (rw (c.in-Some.is, c.as_slice.ensures) at c.find_initial_state_expression.ensures)))) c.eval_with_max_turns.ensures))
