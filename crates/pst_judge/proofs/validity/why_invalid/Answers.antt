use Rattle.std.proofs.Common.{◌≡◌, length, ap, sym, ◌∙◌, arith}
use Rattle.pst_case.specs.Shape.{result_types}
use Rattle.pst_judge.proofs.FittedCommands.{prefix_asked}
use Rattle.pst_judge.proofs.Reasons.{init_fails, prefix_fails, prefix_passes}
use Rattle.pst_judge.proofs.Fitted.{prefix_within, branches_few}
use Rattle.pst_judge.proofs.Furthest.{if_ok_map}
use Rattle.pst_judge.proofs.validity.why_invalid.Goals as goal

pub returns-in-Err : goal.returns-in-Err
returns-in-Err g c =
    if_ok_map _ _ c.reason_with_first_interleaving.result (λ v r. init_fails (g.C.Callbacks.model c.args.callbacks.now) c.args.shaped.now.case c.in-Err.fault v (rw c.in-Err.is at c.in_ok-opening.ensures.says) (rw c.callback_fault_at_command.ensures at r)) c.reason_with_first_interleaving.ensures

pub append_numbered_commands-requires : goal.append_numbered_commands-requires
append_numbered_commands-requires g c =
    let h = prefix_within (g.C.Callbacks.model c.args.callbacks.now) c.args.shaped.now.case (rw c.requires at c.case-case.ensures.shape) in
    let n : length c.as_slice-commands.result.now ≡ length c.args.shaped.now.case.prefix = ap length c.as_slice-commands.ensures ∙ ap (λ x. length x.prefix) c.case-case.ensures.same in
    omega (arith, h, n)

pub run_commands_symbolically-requires : goal.run_commands_symbolically-requires
run_commands_symbolically-requires g c =
    let m = g.C.Callbacks.model c.args.callbacks.now in
    let ts = result_types m c.args.shaped.now.case in
    let e = rw (c.new.ensures, c.as_slice-commands.ensures, c.case-case.ensures.same) at c.in_ok-prefix.ensures in
    let f = prefix_asked m c.args.shaped.now.case (rw c.requires at c.case-case.ensures.shape) in
    (ts, rw c.in-Ok.is at (c.in_ok-opening.ensures.fits ts ts), rw (c.as_slice.ensures, e) f)

pub why_invalid_after_prefix-requires-clause-state : goal.why_invalid_after_prefix-requires-clause-state
why_invalid_after_prefix-requires-clause-state g c =
    let m = g.C.Callbacks.model c.args.callbacks.now in
    let ts = result_types m c.args.shaped.now.case in
    let e = rw (c.new.ensures, c.as_slice-commands.ensures, c.case-case.ensures.same) at c.in_ok-prefix.ensures in
    let f = prefix_asked m c.args.shaped.now.case (rw c.requires at c.case-case.ensures.shape) in
    let s = rw c.in-Ok.is at (c.in_ok-opening.ensures.fits ts ts) in
    rw c.in-Ok-2.is at (c.in_ok-last.ensures.state ts s (rw (c.as_slice.ensures, e) f))

pub reason_with_first_interleaving-requires : goal.reason_with_first_interleaving-requires
reason_with_first_interleaving-requires g c = branches_few (g.C.Callbacks.model c.args.callbacks.now) c.args.shaped.now.case (rw c.requires at c.case-case.ensures.shape)

pub reason_with_first_interleaving-requires-in-Err-2 : goal.reason_with_first_interleaving-requires-in-Err-2
reason_with_first_interleaving-requires-in-Err-2 g c = branches_few (g.C.Callbacks.model c.args.callbacks.now) c.args.shaped.now.case (rw c.requires at c.case-case.ensures.shape)

pub returns-in-Ok-2 : goal.returns-in-Ok-2
returns-in-Ok-2 g c =
    let m = g.C.Callbacks.model c.args.callbacks.now in
    let e = rw (c.new.ensures, c.as_slice-commands.ensures, c.case-case.ensures.same) at c.in_ok-prefix.ensures in
    let says = rw c.in-Ok.is at c.in_ok-opening.ensures.says in
    let end = rw (c.as_slice.ensures, e) at c.in_ok-last.ensures.end in
    if_ok_map _ _ c.why_invalid_after_prefix.result (λ v a. prefix_passes m c.args.shaped.now.case c.in-Ok.opening c.in-Ok-2.last v says (sym end ∙ c.in-Ok-2.is) a) c.why_invalid_after_prefix.ensures

pub returns : goal.returns
returns g c =
    let m = g.C.Callbacks.model c.args.callbacks.now in
    let e = rw (c.new.ensures, c.as_slice-commands.ensures, c.case-case.ensures.same) at c.in_ok-prefix.ensures in
    let says = rw c.in-Ok.is at c.in_ok-opening.ensures.says in
    let end = rw (c.as_slice.ensures, e) at c.in_ok-last.ensures.end in
    if_ok_map _ _ c.reason_with_first_interleaving-in-Err-2.result (λ v r. prefix_fails m c.args.shaped.now.case c.in-Ok.opening c.in-Err-2.failing v says (sym end ∙ c.in-Err-2.is) r) c.reason_with_first_interleaving-in-Err-2.ensures
