use Rattle.std.proofs.Common.{[]}
use Rattle.pst_case.specs.Shape.{result_types}
use Rattle.pst_judge.proofs.Fitted.{prefix_fits, branches_each, branches_count, branches_within, suffix_fits}
use Rattle.pst_reasons.proofs.state_list.states.Goals as goal

pub append_states_while_events_hold-requires : goal.append_states_while_events_hold-requires
append_states_while_events_hold-requires g c =
    let m = g.C.Callbacks.model c.args.run.now.callbacks.now in
    let ts = result_types m c.args.run.now.shaped.now.case in
    let f = prefix_fits m c.args.run.now.shaped.now.case c.args.run.now.history.now (rw c.requires.of_model at c.case-case.ensures.shape) c.requires.of_case c.requires.answered in
    (ts, rw c.in-Ok.is at (c.in_ok-state.ensures.fits [] ts), rw (c.as_slice.ensures, c.in_ok-prefix.ensures) f)

pub append_states_after_prefix-requires-clause-state : goal.append_states_after_prefix-requires-clause-state
append_states_after_prefix-requires-clause-state g c =
    let m = g.C.Callbacks.model c.args.run.now.callbacks.now in
    let ts = result_types m c.args.run.now.shaped.now.case in
    let f = prefix_fits m c.args.run.now.shaped.now.case c.args.run.now.history.now (rw c.requires.of_model at c.case-case.ensures.shape) c.requires.of_case c.requires.answered in
    let s = rw c.in-Ok.is at (c.in_ok-state.ensures.fits [] ts) in
    let last = rw c.in-Some.is at (c.in_ok-states.ensures.last ts s (rw (c.as_slice.ensures, c.in_ok-prefix.ensures) f)) in
    rw (c.in_ok-branches.ensures.callbacks, c.in_ok-branches.ensures.shaped) last

pub append_states_after_prefix-requires-clause-fit : goal.append_states_after_prefix-requires-clause-fit
append_states_after_prefix-requires-clause-fit g c =
    rw (c.in_ok-branches.ensures.events, c.in_ok-branches.ensures.callbacks, c.in_ok-branches.ensures.shaped) (branches_each (g.C.Callbacks.model c.args.run.now.callbacks.now) c.args.run.now.shaped.now.case c.args.run.now.history.now (rw c.requires.of_model at c.case-case.ensures.shape) c.requires.of_case c.requires.answered)

pub append_states_after_prefix-requires-clause-events : goal.append_states_after_prefix-requires-clause-events
append_states_after_prefix-requires-clause-events g c =
    rw (c.in_ok-branches.ensures.suffix, c.in_ok-branches.ensures.callbacks, c.in_ok-branches.ensures.shaped) (suffix_fits (g.C.Callbacks.model c.args.run.now.callbacks.now) c.args.run.now.shaped.now.case c.args.run.now.history.now (rw c.requires.of_model at c.case-case.ensures.shape) c.requires.of_case c.requires.answered)

pub append_states_after_prefix-requires-clause-lengths : goal.append_states_after_prefix-requires-clause-lengths
append_states_after_prefix-requires-clause-lengths g c =
    rw (c.in_ok-branches.ensures.events, c.in_ok-branches.ensures.shaped) (branches_count (g.C.Callbacks.model c.args.run.now.callbacks.now) c.args.run.now.shaped.now.case c.args.run.now.history.now (rw c.requires.of_model at c.case-case.ensures.shape) c.requires.of_case c.requires.answered)

pub append_states_after_prefix-requires-clause-few : goal.append_states_after_prefix-requires-clause-few
append_states_after_prefix-requires-clause-few g c =
    rw c.in_ok-branches.ensures.shaped (branches_within (g.C.Callbacks.model c.args.run.now.callbacks.now) c.args.run.now.shaped.now.case (rw c.requires.of_model at c.case-case.ensures.shape))
