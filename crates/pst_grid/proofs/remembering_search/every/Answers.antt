use Rattle.std.proofs.Common.{ℕ}
use Rattle.pst_grid.specs.declared.steps.EveryAnswer.{EveryAnswer}
use Rattle.pst_grid.specs.Answers.{IsEveryAnswer, IsEveryAnswerAmong}
use Rattle.pst_grid.specs.Orders.{any_order, IsMergeInOrder}
use Rattle.pst_grid.proofs.Orderless.{if-ok-then, any-every-answer}
use Rattle.pst_grid.proofs.remembering_search.every.Goals as goal

pub returns-clause-answer : goal.returns-clause-answer
returns-clause-answer g c =
    let turn = g.S.Steps.outcome c.args.steps.now in
    let rest = g.S.Steps.rest c.args.steps.now in
    let lengths = c.args.lengths.now in
    if-ok-then (λ (r : EveryAnswer _ × ℕ). IsEveryAnswerAmong turn rest lengths c.args.start.now (IsMergeInOrder any_order lengths) r.0) (λ (r : EveryAnswer _ × ℕ). IsEveryAnswer turn rest lengths c.args.start.now r.0)
    (λ r h. any-every-answer turn rest lengths c.args.start.now r.0 h) _ c.every_in_order.ensures.answer
