use Rattle.std.proofs.Common.{refl, sum}
use Rattle.pst_grid.proofs.Answering.{from_search, from_start}
use Rattle.pst_grid.proofs.Growing.{bounded}
use Rattle.pst_grid.proofs.Remembering.{position-equal}
use Rattle.pst_grid.proofs.remembering_search.search_interleavings_for_goal.Goals as goal

pub returns-clause-explored : goal.returns-clause-explored
returns-clause-explored g c =
    let new = c.in_ok-search.ensures in
    let search = c.in_ok-search.search in
    from_start (g.S.Steps.outcome c.args.steps.now) (g.S.Steps.rest c.args.steps.now) (g.O.Order.order c.args.order.now) c.args.lengths.now c.args.start.now c.args.goal search c.explore_unless_remembered.new.search c.in_ok-found.found new.done new.word new.best
    (from_search (g.S.Steps.outcome c.args.steps.now) (g.S.Steps.rest c.args.steps.now) (g.O.Order.order c.args.order.now) c.args.lengths.now c.args.start.now c.args.goal (sum search.done.items) search c.explore_unless_remembered.new.search c.explore_unless_remembered.new.seen.keys c.in_ok-found.found c.in_ok-found.ensures.ends)

pub returns-clause-bound : goal.returns-clause-bound
returns-clause-bound g c =
    let new = c.in_ok-search.ensures in
    let search = c.in_ok-search.search in
    bounded (g.S.Steps.outcome c.args.steps.now) c.args.lengths.now (g.S.Steps.most_rest c.args.steps.now) search.done.items c.args.start.now c.args.start.now
    c.with_hasher-seen.result.keys c.explore_unless_remembered.new.seen.keys search.steps c.explore_unless_remembered.new.search.steps _ (position-equal g.S.State.PartialEq.eq g.met.S.State.Eq.laws.refl) c.len.ensures.unique
    new.done refl c.with_hasher-seen.ensures.empty new.steps c.in_ok-found.ensures.grown
