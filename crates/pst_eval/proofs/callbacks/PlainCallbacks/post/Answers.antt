use Rattle.std.proofs.Common.{[], sym, ◌∙◌}
use Rattle.pst_eval.proofs.Calls.{says_at, post_is, post_starts, post_gives}
use Rattle.pst_eval.proofs.Table.{the_operation}
use Rattle.pst_eval.proofs.callbacks.PlainCallbacks.post.Goals as goal

pub unreachable-requires : goal.unreachable-requires
unreachable-requires c =
    let h = (rw (sym c.source-model.ensures.same) at c.requires) in
    let o = the_operation [] h.0 c.source-model.result.now c.args.op c.args.arguments.now h.1.arguments in
    let none = rw (c.in_default.is, c.as_slice.ensures) at c.operation_of.ensures in
    let some = o.1 in
    absurd (cc)

pub eval_with_max_turns-requires : goal.eval_with_max_turns-requires
eval_with_max_turns-requires c = λ stuck. post_starts c.source-model.result.now c.args.op c.args.state.now c.args.arguments.now c.args.r.now c.source-model.ensures.well (rw (sym c.source-model.ensures.same) at c.requires) ((post_is c.source-model.result.now c.args.op c.in-Some.operation.now c.args.state.now c.args.arguments.now c.args.r.now (sym (rw (c.in-Some.is, c.as_slice.ensures) at c.operation_of.ensures))) ∙ (rw c.as_slice-2.ensures at stuck))

pub returns-clause-says : goal.returns-clause-says
returns-clause-says c = rw (sym c.source-model.ensures.same) (says_at _ _ c.eval_with_max_turns.result (sym (post_is c.source-model.result.now c.args.op c.in-Some.operation.now c.args.state.now c.args.arguments.now c.args.r.now (sym (rw (c.in-Some.is, c.as_slice.ensures) at c.operation_of.ensures)))) (rw c.as_slice-2.ensures at c.eval_with_max_turns.ensures))

pub returns-clause-fits : goal.returns-clause-fits
returns-clause-fits c = rw (sym c.source-model.ensures.same) (post_gives c.source-model.result.now c.args.op c.args.state.now c.args.arguments.now c.args.r.now c.eval_with_max_turns.result c.source-model.ensures.well (rw (sym c.source-model.ensures.same) at c.requires) (says_at _ _ c.eval_with_max_turns.result (sym (post_is c.source-model.result.now c.args.op c.in-Some.operation.now c.args.state.now c.args.arguments.now c.args.r.now (sym (rw (c.in-Some.is, c.as_slice.ensures) at c.operation_of.ensures)))) (rw c.as_slice-2.ensures at c.eval_with_max_turns.ensures)))
