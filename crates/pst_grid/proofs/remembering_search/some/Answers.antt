use Rattle.std.proofs.Common.{ℕ}
use Rattle.pst_grid.specs.declared.steps.SomeAnswer.{SomeAnswer}
use Rattle.pst_grid.specs.Answers.{IsAnswer, IsAnswerAmong}
use Rattle.pst_grid.specs.Orders.{any_order, IsMergeInOrder}
use Rattle.pst_grid.proofs.Orderless.{if-ok-then, any-answer}
use Rattle.pst_grid.proofs.remembering_search.some.Goals as goal

pub returns-clause-answer : goal.returns-clause-answer
returns-clause-answer g c =
    let turn = g.S.Steps.outcome c.args.steps.now in
    let rest = g.S.Steps.rest c.args.steps.now in
    let lengths = c.args.lengths.now in
    if-ok-then (λ (r : SomeAnswer _ × ℕ). IsAnswerAmong turn rest lengths c.args.start.now (IsMergeInOrder any_order lengths) r.0) (λ (r : SomeAnswer _ × ℕ). IsAnswer turn rest lengths c.args.start.now r.0)
    (λ r h. any-answer turn rest lengths c.args.start.now r.0 h) _ c.some_in_order.ensures.answer
