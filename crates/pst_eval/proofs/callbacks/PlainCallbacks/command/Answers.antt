use Rattle.std.proofs.Common.{sym, ◌∙◌}
use Rattle.pst_eval.proofs.Calls.{says_at, command_is, command_starts, command_gives}
use Rattle.pst_eval.proofs.callbacks.PlainCallbacks.command.Goals as goal

pub unreachable-requires : goal.unreachable-requires
unreachable-requires c =
    let none = rw (c.in_default.is, c.as_slice.ensures) at c.find_command_expression.ensures in
    let some = c.source-model.ensures.well.calls_is in
    absurd (cc)

pub eval_with_max_turns-requires : goal.eval_with_max_turns-requires
eval_with_max_turns-requires c = λ stuck. command_starts c.source-model.result.now c.args.state.now c.source-model.ensures.well (rw (sym c.source-model.ensures.same) at c.requires) ((command_is c.source-model.result.now c.in-Some.calls.now c.args.state.now (sym (rw (c.in-Some.is, c.as_slice.ensures) at c.find_command_expression.ensures))) ∙ stuck)

pub returns-clause-says : goal.returns-clause-says
returns-clause-says c = rw (sym c.source-model.ensures.same) (says_at _ _ c.eval_with_max_turns.result (sym (command_is c.source-model.result.now c.in-Some.calls.now c.args.state.now (sym (rw (c.in-Some.is, c.as_slice.ensures) at c.find_command_expression.ensures)))) c.eval_with_max_turns.ensures)

pub returns-clause-fits : goal.returns-clause-fits
returns-clause-fits c = rw (sym c.source-model.ensures.same) (command_gives c.source-model.result.now c.args.state.now c.eval_with_max_turns.result c.source-model.ensures.well (says_at _ _ c.eval_with_max_turns.result (sym (command_is c.source-model.result.now c.in-Some.calls.now c.args.state.now (sym (rw (c.in-Some.is, c.as_slice.ensures) at c.find_command_expression.ensures)))) c.eval_with_max_turns.ensures))
