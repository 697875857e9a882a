use Rattle.std.proofs.Common.{◌+◌, ℕ, [], drop, sym, ap, ◌∙◌}
use Rattle.pst_gen.proofs.Calls.{called-fits}
use Rattle.pst_gen.proofs.Listed.{one_answers, call_at, rest_from}
use Rattle.pst_gen.specs.Script.{after_others, allowed, commands_in}
use Rattle.pst_value.specs.declared.value.Value.{Value}
use Rattle.pst_gen.proofs.candidates.append_allowed_calls_or_fault.Goals as goal

pub command_of_call-requires : goal.command_of_call-requires
command_of_call-requires g c =
    let m = g.C.Callbacks.model c.args.callbacks.now in
    (m, c.requires.0, call_at m c.requires.0 c.args.calls.now c.loop-call.call-index c.call-item.result c.requires.2 c.loop-call-test.true c.call-item.is)

pub pre-requires : goal.pre-requires
pre-requires g c =
    let m = g.C.Callbacks.model c.args.callbacks.now in
    let here = call_at m c.requires.0 c.args.calls.now c.loop-call.call-index c.call-item.result c.requires.2 c.loop-call-test.true c.call-item.is in
    let fit = called-fits m c.requires.0 c.call-item.result c.in_ok-command.command here c.in_ok-command.ensures in
    (c.requires.0, [], record { state = c.requires.1; arguments = rw c.as_slice.ensures fit })

pub loop-call-preserved : goal.loop-call-preserved
loop-call-preserved g c =
    let m = g.C.Callbacks.model c.args.callbacks.now in
    let s = c.args.state.now in
    let number = c.args.number in
    let p : Value × ℕ = (c.in-Ok.answer, c.in-Ok.field-0-1) in
    let rest = drop (c.loop-call.call-index + 1) c.args.calls.now in
    let says = rw (c.in-Ok.is, c.as_slice.ensures) at c.in_ok-answer.ensures.says in
    let step = one_answers m number s c.loop-call.commands c.call-item.result rest c.in_ok-command.command c.in_ok-command.ensures p c.bool_of_value.result says c.bool_of_value.ensures in
    let from = rest_from c.args.calls.now c.loop-call.call-index c.call-item.result c.loop-call-test.true c.call-item.is in
    ap (λ cs. after_others cs (allowed m number s (commands_in rest))) c.in_ok-commands-in-Ok.ensures ∙ sym step
    ∙ ap (λ vs. after_others c.loop-call.commands (allowed m number s (commands_in vs))) (sym from) ∙ c.loop-call.invariant
