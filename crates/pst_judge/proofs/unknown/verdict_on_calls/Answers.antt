use Rattle.std.proofs.Common.{◌≡◌, [], length, sym, ap, ◌∙◌, subst, arith}
use Rattle.pst_case.specs.Shape.{IsShaped, result_types}
use Rattle.pst_judge.proofs.CallsCount.{columns_within, known_prefix_within}
use Rattle.pst_judge.proofs.CallsFit.{columns_fit, prefix_fits}
use Rattle.pst_judge.proofs.CallsJudged.{init_faults, prefix_false, prefix_faults, prefix_through}
use Rattle.pst_judge.proofs.Furthest.{if_ok_map}
use Rattle.pst_judge.specs.UnknownCalls.{known_prefix}
use Rattle.pst_judge.specs.declared.replay.EventsEnd.TheVariants.{Stopped}
use Rattle.pst_judge.proofs.unknown.verdict_on_calls.Goals as goal

pub returns-in-Err : goal.returns-in-Err
returns-in-Err g c =
    let m = g.C.Callbacks.model c.args.callbacks.now in
    let asked = g.A.Condition.asked c.args.condition.now m in
    init_faults m asked (g.O.Order.order c.args.order.now) c.args.shaped.now.case c.args.history.now c.requires.progress c.in-Err.fault (rw c.in-Err.is at c.in_ok-opening.ensures.says)

pub run_events-requires : goal.run_events-requires
run_events-requires g c =
    let m = g.C.Callbacks.model c.args.callbacks.now in
    let case = c.args.shaped.now.case in
    let ts = result_types m case in
    let shaped = subst (λ n. IsShaped n case) c.requires.model c.case-case.ensures.shape in
    let f = prefix_fits m case c.args.history.now shaped c.requires.matches c.requires.whole c.model_is_well_typed.ensures in
    (ts, rw c.in-Ok.is at (c.in_ok-opening.ensures.fits [] ts), rw (c.as_slice.ensures, c.in_ok-prefix.ensures) f)

pub search_calls-requires-clause-state : goal.search_calls-requires-clause-state
search_calls-requires-clause-state g c =
    let m = g.C.Callbacks.model c.args.callbacks.now in
    let case = c.args.shaped.now.case in
    let ts = result_types m case in
    let shaped = subst (λ n. IsShaped n case) c.requires.model c.case-case.ensures.shape in
    let f = prefix_fits m case c.args.history.now shaped c.requires.matches c.requires.whole c.model_is_well_typed.ensures in
    let s = rw c.in-Ok.is at (c.in_ok-opening.ensures.fits [] ts) in
    rw c.in-Through.is at (c.in_ok-last.ensures.state ts s (rw (c.as_slice.ensures, c.in_ok-prefix.ensures) f))

pub search_calls-requires-clause-calls : goal.search_calls-requires-clause-calls
search_calls-requires-clause-calls g c =
    let m = g.C.Callbacks.model c.args.callbacks.now in
    let case = c.args.shaped.now.case in
    let shaped = subst (λ n. IsShaped n case) c.requires.model c.case-case.ensures.shape in
    rw c.in_ok-columns_of_calls-in-Through.ensures (columns_fit m case c.args.history.now shaped c.requires.matches c.requires.whole c.model_is_well_typed.ensures)

pub search_calls-requires-clause-progress : goal.search_calls-requires-clause-progress
search_calls-requires-clause-progress g c = rw c.in_ok-columns_of_calls-in-Through.ensures c.requires.progress

pub search_calls-requires-clause-prefix : goal.search_calls-requires-clause-prefix
search_calls-requires-clause-prefix g c =
    let m = g.C.Callbacks.model c.args.callbacks.now in
    let case = c.args.shaped.now.case in
    let shaped = subst (λ n. IsShaped n case) c.requires.model c.case-case.ensures.shape in
    let h = known_prefix_within m case c.args.history.now shaped in
    let n : c.len.result ≡ length (known_prefix case c.args.history.now) = c.len.ensures ∙ ap length c.in_ok-prefix.ensures in
    omega (arith, h, n)

pub search_calls-requires-clause-lengths : goal.search_calls-requires-clause-lengths
search_calls-requires-clause-lengths g c =
    let m = g.C.Callbacks.model c.args.callbacks.now in
    let case = c.args.shaped.now.case in
    let shaped = subst (λ n. IsShaped n case) c.requires.model c.case-case.ensures.shape in
    rw c.in_ok-columns_of_calls-in-Through.ensures (columns_within m case c.args.history.now shaped)

pub returns-in-Through : goal.returns-in-Through
returns-in-Through g c =
    let m = g.C.Callbacks.model c.args.callbacks.now in
    let asked = g.A.Condition.asked c.args.condition.now m in
    let case = c.args.shaped.now.case in
    let history = c.args.history.now in
    let says = rw c.in-Ok.is at c.in_ok-opening.ensures.says in
    let end = rw (c.as_slice.ensures, c.in_ok-prefix.ensures) at c.in_ok-last.ensures.end in
    let n : c.len.result ≡ length (known_prefix case history) = c.len.ensures ∙ ap length c.in_ok-prefix.ensures in
    let found = rw (c.in_ok-columns_of_calls-in-Through.ensures, n) at c.search_calls.ensures in
    if_ok_map _ _ c.search_calls.result (λ v a. prefix_through m asked (g.O.Order.order c.args.order.now) case history c.in-Ok.opening c.in-Through.last v says (sym end ∙ c.in-Through.is) a) found

pub returns-in-Stopped-default-False : goal.returns-in-Stopped-default-False
returns-in-Stopped-default-False g c =
    let m = g.C.Callbacks.model c.args.callbacks.now in
    let asked = g.A.Condition.asked c.args.condition.now m in
    let says = rw c.in-Ok.is at c.in_ok-opening.ensures.says in
    let end = rw (c.as_slice.ensures, c.in_ok-prefix.ensures) at c.in_ok-last.ensures.end in
    let x = c.in-Stopped-default-False in
    prefix_false m asked (g.O.Order.order c.args.order.now) c.args.shaped.now.case c.args.history.now c.requires.progress c.in-Ok.opening x.at says (sym end ∙ x.is ∙ ap (λ w. Stopped x.at w) x.field-1-is)

pub returns : goal.returns
returns g c =
    let m = g.C.Callbacks.model c.args.callbacks.now in
    let asked = g.A.Condition.asked c.args.condition.now m in
    let says = rw c.in-Ok.is at c.in_ok-opening.ensures.says in
    let end = rw (c.as_slice.ensures, c.in_ok-prefix.ensures) at c.in_ok-last.ensures.end in
    let x = c.in-Stopped-default-Fault in
    rw x.place-is (prefix_faults m asked (g.O.Order.order c.args.order.now) c.args.shaped.now.case c.args.history.now c.requires.progress c.in-Ok.opening x.field-0 x.place says (sym end ∙ x.is ∙ ap (λ w. Stopped x.field-0 w) x.field-1-is))
