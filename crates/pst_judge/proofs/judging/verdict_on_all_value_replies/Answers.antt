use Rattle.std.proofs.Common.{[], ap, sym, ◌∙◌, arith}
use Rattle.pst_case.specs.Shape.{result_types}
use Rattle.pst_judge.proofs.Fitted.{prefix_fits, prefix_length}
use Rattle.pst_judge.proofs.Furthest.{if_ok_map}
use Rattle.pst_judge.proofs.FromReplay.{init_faults, init_letters, prefix_false, prefix_false_letters, prefix_faults, prefix_faults_letters, prefix_through, prefix_through_letters}
use Rattle.pst_judge.specs.declared.replay.EventsEnd.TheVariants.{Stopped}
use Rattle.pst_judge.proofs.judging.verdict_on_all_value_replies.Goals as goal

pub returns-in-Err-clause-verdict : goal.returns-in-Err-clause-verdict
returns-in-Err-clause-verdict g c =
    let m = g.C.Callbacks.model c.args.callbacks.now in
    let asked = g.A.Condition.asked c.args.condition.now m in
    init_faults m asked (g.O.Order.order c.args.order.now) c.args.shaped.now.case c.args.history.now c.requires.progress c.in-Err.fault (rw c.in-Err.is at c.in_ok-opening.ensures.says)

pub returns-in-Err-clause-letters : goal.returns-in-Err-clause-letters
returns-in-Err-clause-letters g c =
    let m = g.C.Callbacks.model c.args.callbacks.now in
    let asked = g.A.Condition.asked c.args.condition.now m in
    rw c.new.ensures.items (init_letters m asked (g.O.Order.order c.args.order.now) c.args.shaped.now.case c.args.history.now c.requires.progress c.in-Err.fault (rw c.in-Err.is at c.in_ok-opening.ensures.says))

pub run_events-requires : goal.run_events-requires
run_events-requires g c =
    let m = g.C.Callbacks.model c.args.callbacks.now in
    let ts = result_types m c.args.shaped.now.case in
    let f = prefix_fits m c.args.shaped.now.case c.args.history.now c.requires.shape c.requires.matches c.requires.answered in
    (ts, rw c.in-Ok.is at (c.in_ok-opening.ensures.fits [] ts), rw (c.as_slice.ensures, c.in_ok-prefix.ensures) f)

pub verdict_after_prefix-requires-clause-state : goal.verdict_after_prefix-requires-clause-state
verdict_after_prefix-requires-clause-state g c =
    let m = g.C.Callbacks.model c.args.callbacks.now in
    let ts = result_types m c.args.shaped.now.case in
    let f = prefix_fits m c.args.shaped.now.case c.args.history.now c.requires.shape c.requires.matches c.requires.answered in
    let s = rw c.in-Ok.is at (c.in_ok-opening.ensures.fits [] ts) in
    rw c.in-Through.is at (c.in_ok-last.ensures.state ts s (rw (c.as_slice.ensures, c.in_ok-prefix.ensures) f))

pub returns-in-Through-clause-verdict : goal.returns-in-Through-clause-verdict
returns-in-Through-clause-verdict g c =
    let m = g.C.Callbacks.model c.args.callbacks.now in
    let asked = g.A.Condition.asked c.args.condition.now m in
    let says = rw c.in-Ok.is at c.in_ok-opening.ensures.says in
    let end = rw (c.as_slice.ensures, c.in_ok-prefix.ensures) at c.in_ok-last.ensures.end in
    let l = prefix_length m c.args.shaped.now.case c.args.history.now c.requires.shape c.requires.matches c.requires.answered in
    if_ok_map _ _ c.verdict_after_prefix.result (λ r a. prefix_through m asked (g.O.Order.order c.args.order.now) c.args.shaped.now.case c.args.history.now c.in-Ok.opening c.in-Through.last r.0 r.1.items says (sym end ∙ c.in-Through.is) l a) c.verdict_after_prefix.ensures

pub returns-in-Through-clause-letters : goal.returns-in-Through-clause-letters
returns-in-Through-clause-letters g c =
    let m = g.C.Callbacks.model c.args.callbacks.now in
    let asked = g.A.Condition.asked c.args.condition.now m in
    let says = rw c.in-Ok.is at c.in_ok-opening.ensures.says in
    let end = rw (c.as_slice.ensures, c.in_ok-prefix.ensures) at c.in_ok-last.ensures.end in
    let l = prefix_length m c.args.shaped.now.case c.args.history.now c.requires.shape c.requires.matches c.requires.answered in
    if_ok_map _ _ c.verdict_after_prefix.result (λ r a. prefix_through_letters m asked (g.O.Order.order c.args.order.now) c.args.shaped.now.case c.args.history.now c.in-Ok.opening c.in-Through.last r.0 r.1.items says (sym end ∙ c.in-Through.is) l a) c.verdict_after_prefix.ensures

pub returns-in-Stopped-default-False-clause-letters : goal.returns-in-Stopped-default-False-clause-letters
returns-in-Stopped-default-False-clause-letters g c =
    let m = g.C.Callbacks.model c.args.callbacks.now in
    let asked = g.A.Condition.asked c.args.condition.now m in
    let says = rw c.in-Ok.is at c.in_ok-opening.ensures.says in
    let end = rw (c.as_slice.ensures, c.in_ok-prefix.ensures) at c.in_ok-last.ensures.end in
    let l = prefix_length m c.args.shaped.now.case c.args.history.now c.requires.shape c.requires.matches c.requires.answered in
    let x = c.in-Stopped-default-False in
    let within = rw (x.is, c.as_slice.ensures, c.in_ok-prefix.ensures) at c.in_ok-last.ensures.within in
    rw c.new-in-Stopped-default-False.ensures.items (prefix_false_letters m asked (g.O.Order.order c.args.order.now) c.args.shaped.now.case c.args.history.now c.requires.progress c.in-Ok.opening x.at says (sym end ∙ x.is ∙ ap (λ w. Stopped x.at w) x.field-1-is) (omega (arith, within, l)))

pub returns-in-Stopped-default-False-clause-verdict : goal.returns-in-Stopped-default-False-clause-verdict
returns-in-Stopped-default-False-clause-verdict g c =
    let m = g.C.Callbacks.model c.args.callbacks.now in
    let asked = g.A.Condition.asked c.args.condition.now m in
    let says = rw c.in-Ok.is at c.in_ok-opening.ensures.says in
    let end = rw (c.as_slice.ensures, c.in_ok-prefix.ensures) at c.in_ok-last.ensures.end in
    prefix_false m asked (g.O.Order.order c.args.order.now) c.args.shaped.now.case c.args.history.now c.requires.progress c.in-Ok.opening c.in-Stopped-default-False.at says (sym end ∙ c.in-Stopped-default-False.is ∙ ap (λ w. Stopped c.in-Stopped-default-False.at w) c.in-Stopped-default-False.field-1-is)

pub returns-clause-letters : goal.returns-clause-letters
returns-clause-letters g c =
    let m = g.C.Callbacks.model c.args.callbacks.now in
    let asked = g.A.Condition.asked c.args.condition.now m in
    let says = rw c.in-Ok.is at c.in_ok-opening.ensures.says in
    let end = rw (c.as_slice.ensures, c.in_ok-prefix.ensures) at c.in_ok-last.ensures.end in
    let l = prefix_length m c.args.shaped.now.case c.args.history.now c.requires.shape c.requires.matches c.requires.answered in
    let x = c.in-Stopped-default-Fault in
    let within = rw (x.is, c.as_slice.ensures, c.in_ok-prefix.ensures) at c.in_ok-last.ensures.within in
    rw (x.place-is, c.new-in-Stopped-default-Fault.ensures.items) (prefix_faults_letters m asked (g.O.Order.order c.args.order.now) c.args.shaped.now.case c.args.history.now c.requires.progress c.in-Ok.opening x.field-0 x.place says (sym end ∙ x.is ∙ ap (λ w. Stopped x.field-0 w) x.field-1-is) (omega (arith, within, l)))

pub returns-clause-verdict : goal.returns-clause-verdict
returns-clause-verdict g c =
    let m = g.C.Callbacks.model c.args.callbacks.now in
    let asked = g.A.Condition.asked c.args.condition.now m in
    let says = rw c.in-Ok.is at c.in_ok-opening.ensures.says in
    let end = rw (c.as_slice.ensures, c.in_ok-prefix.ensures) at c.in_ok-last.ensures.end in
    rw c.in-Stopped-default-Fault.place-is (prefix_faults m asked (g.O.Order.order c.args.order.now) c.args.shaped.now.case c.args.history.now c.requires.progress c.in-Ok.opening c.in-Stopped-default-Fault.field-0 c.in-Stopped-default-Fault.place says (sym end ∙ c.in-Stopped-default-Fault.is ∙ ap (λ w. Stopped c.in-Stopped-default-Fault.field-0 w) c.in-Stopped-default-Fault.field-1-is))
