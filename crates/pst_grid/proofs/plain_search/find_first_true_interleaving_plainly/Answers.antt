use Rattle.pst_grid.specs.declared.search.Goal.TheVariants.{ToEnd}
use Rattle.pst_grid.proofs.Answering.{ended, from_start, has_end}
use Rattle.pst_grid.proofs.plain_search.find_first_true_interleaving_plainly.Goals as goal

pub into_answer-requires : goal.into_answer-requires
into_answer-requires g c =
    let new = c.in_ok-search.ensures in
    has_end (g.S.Steps.outcome c.args.steps.now) (g.S.Steps.rest c.args.steps.now) (g.O.Order.order c.args.order.now) c.args.lengths.now c.args.start.now c.requires.progress c.explore_plainly.new.search c.in_ok-found.found
    (from_start (g.S.Steps.outcome c.args.steps.now) (g.S.Steps.rest c.args.steps.now) (g.O.Order.order c.args.order.now) c.args.lengths.now c.args.start.now ToEnd c.in_ok-search.search c.explore_plainly.new.search c.in_ok-found.found new.done new.word new.best c.in_ok-found.ensures)

pub returns : goal.returns
returns g c =
    let new = c.in_ok-search.ensures in
    ended (g.S.Steps.outcome c.args.steps.now) (g.S.Steps.rest c.args.steps.now) (g.O.Order.order c.args.order.now) c.args.lengths.now c.args.start.now c.requires.progress c.explore_plainly.new.search c.in_ok-found.found c.into_answer.result
    (from_start (g.S.Steps.outcome c.args.steps.now) (g.S.Steps.rest c.args.steps.now) (g.O.Order.order c.args.order.now) c.args.lengths.now c.args.start.now ToEnd c.in_ok-search.search c.explore_plainly.new.search c.in_ok-found.found new.done new.word new.best c.in_ok-found.ensures)
    c.into_answer.ensures
