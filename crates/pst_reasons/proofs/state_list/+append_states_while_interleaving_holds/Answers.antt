use Rattle.std.proofs.Common.{rules, ◌∙◌, sym}
use Rattle.std.proofs.lemmas.List.{length-set}
use Rattle.pst_case.specs.Shape.{result_types}
use Rattle.pst_reasons.proofs.Along.{the_command}
use Rattle.pst_reasons.proofs.state_list.+append_states_while_interleaving_holds.Goals as goal

pub replay_event-requires : goal.replay_event-requires
replay_event-requires g t c =
    let m = g.C.Callbacks.model c.args.branches.now.callbacks.now in
    let is = the_command c.args.branches.now.events c.in-Some.branch.now c.index-index.result.now c.in-Some-get.events.now c.in-Some-get-2.event.now (sym c.in-Some-get.ensures.value) (sym c.in-Some-get-2.ensures.value) in
    (result_types m c.args.branches.now.shaped.now.case, c.requires.state, c.requires.fit _ _ _ is)

pub append_states_while_interleaving_holds-requires : goal.append_states_while_interleaving_holds-requires
append_states_while_interleaving_holds-requires g t c κs within =
    let ts = result_types (g.C.Callbacks.model c.args.branches.now.callbacks.now) c.args.branches.now.shaped.now.case in
    let is = the_command c.args.branches.now.events c.in-Some.branch.now c.index-index.result.now c.in-Some-get.events.now c.in-Some-get-2.event.now (sym c.in-Some-get.ensures.value) (sym c.in-Some-get-2.ensures.value) in
    let state = rw c.in-Next.is at (c.in_ok-replay_event.ensures.state ts c.requires.state (c.requires.fit _ _ _ is)) in
    (search rules, (within.0, (within.1, (length-set _ _ _ ∙ c.requires.lengths, (state, c.requires.fit)))))
