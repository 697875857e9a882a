use Rattle.std.proofs.Common.{All, subst, take_all}
use Rattle.std.proofs.lemmas.List.Elements.{All-more}
use Rattle.pst_clients.specs.Bursting.{IsAlike}
use Rattle.pst_clients.proofs.burst.are_drives_alike.Goals as goal

pub loop-answer-preserved : goal.loop-answer-preserved
loop-answer-preserved c =
    All-more (IsAlike c.args.k c.args.other) c.args.answers.now c.loop-answer.answer-index c.answer-item.result
    c.loop-answer-test.true c.loop-answer.invariant
    (subst (IsAlike c.args.k c.args.other) c.answer-item.is (c.is_alike.ensures c.if-not-is_alike.false))

pub returns : goal.returns
returns c = λ _.
    subst (All (IsAlike c.args.k c.args.other)) (take_all c.loop-answer.answer-index c.args.answers.now c.loop-answer-test.false)
    c.loop-answer.invariant
