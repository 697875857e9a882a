use Rattle.pst_grid.proofs.Answering.{ended-every}
use Rattle.pst_grid.proofs.remembering_search.every_in_order.Goals as goal

pub returns-clause-answer : goal.returns-clause-answer
returns-clause-answer g c =
    ended-every (g.S.Steps.outcome c.args.steps.now) (g.S.Steps.rest c.args.steps.now) (g.O.Order.order c.args.order.now) c.args.lengths.now c.args.start.now c.in_ok-search.search c.in_ok-search.field-0-0 c.into_every_answer.result
    c.in_ok-search.ensures.explored c.into_every_answer.ensures
