use Rattle.pst_grid.proofs.Answering.{has_end, ended}
use Rattle.pst_grid.proofs.remembering_search.some_in_order.Goals as goal

pub into_answer-requires : goal.into_answer-requires
into_answer-requires g c =
    has_end (g.S.Steps.outcome c.args.steps.now) (g.S.Steps.rest c.args.steps.now) (g.O.Order.order c.args.order.now) c.args.lengths.now c.args.start.now c.requires.progress c.in_ok-found.search c.in_ok-found.found c.in_ok-found.ensures.explored

pub returns-clause-answer : goal.returns-clause-answer
returns-clause-answer g c =
    ended (g.S.Steps.outcome c.args.steps.now) (g.S.Steps.rest c.args.steps.now) (g.O.Order.order c.args.order.now) c.args.lengths.now c.args.start.now c.requires.progress c.in_ok-found.search c.in_ok-found.found c.into_answer.result
    c.in_ok-found.ensures.explored c.into_answer.ensures
