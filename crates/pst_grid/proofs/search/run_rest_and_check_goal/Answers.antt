use Rattle.std.proofs.Common.{◌≡◌, ◌+◌, ◌++◌, length, not, refl, sym, subst, ◌∙◌}
use Rattle.std.proofs.lemmas.Grind.{common_steps}
use Rattle.pst_grid.specs.Orders.{Extends}
use Rattle.pst_grid.specs.Covered.{IsExplored}
use Rattle.pst_grid.specs.Kept.{Keeps}
use Rattle.pst_grid.proofs.Finishing.{ended-true, ended-stop}
use Rattle.pst_grid.proofs.search.run_rest_and_check_goal.Goals as goal

pub returns-in-AllTrue-clause-explored : goal.returns-in-AllTrue-clause-explored
returns-in-AllTrue-clause-explored g c =
    let turn = g.S.Steps.outcome c.args.steps.now in
    let rest = g.S.Steps.rest c.args.steps.now in
    let old = c.args.search.now in
    let new = record old { steps = c.saturating_add-search.result } in
    subst (λ b. IsExplored turn rest c.args.goal c.args.state.now (Extends (g.O.Order.order c.args.order.now) c.args.lengths.now old.done.items) old new (not b)) (sym c.wants_stopped_interleaving.ensures)
    (ended-true turn rest c.args.state.now (g.O.Order.order c.args.order.now) c.args.lengths.now old new c.requires.place c.requires.ended refl refl c.args.goal (sym c.in_ok-ending.ensures.ending ∙ c.in-AllTrue.is) refl)

pub returns-in_ok-note_stop_if_first_or_furthest-in-StopsAt-clause-explored : goal.returns-in_ok-note_stop_if_first_or_furthest-in-StopsAt-clause-explored
returns-in_ok-note_stop_if_first_or_furthest-in-StopsAt-clause-explored g c =
    let turn = g.S.Steps.outcome c.args.steps.now in
    let rest = g.S.Steps.rest c.args.steps.now in
    let old = c.args.search.now in
    let x = c.in-StopsAt in
    let e = c.in_ok-note_stop_if_first_or_furthest-in-StopsAt.ensures in
    let place : c.len.result + x.at ≡ length old.word.items + x.at = search common_steps in
    subst (λ b. IsExplored turn rest c.args.goal c.args.state.now (Extends (g.O.Order.order c.args.order.now) c.args.lengths.now old.done.items) old c.note_stop_if_first_or_furthest.new.self b) (sym c.wants_stopped_interleaving-in-StopsAt.ensures)
    (ended-stop turn rest c.args.state.now (g.O.Order.order c.args.order.now) c.args.lengths.now old c.note_stop_if_first_or_furthest.new.self c.requires.place c.requires.ended e.word e.done c.args.goal x.at x.why e.best.0
    (sym c.in_ok-ending.ensures.ending ∙ x.is) c.requires.fresh e.best.1
    (subst (λ n. Keeps n (old.word.items ++ e.best.0) x.why old.best c.note_stop_if_first_or_furthest.new.self.best) place e.best.2))
