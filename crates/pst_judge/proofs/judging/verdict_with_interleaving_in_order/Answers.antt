use Rattle.pst_judge.proofs.Letters.{interleaving_of}
use Rattle.pst_judge.specs.InOrder.{IsRunInOrder}
use Rattle.pst_judge.specs.Replay.{post_asked}
use Rattle.pst_judge.proofs.judging.verdict_with_interleaving_in_order.Goals as goal

pub returns-clause-interleaving : goal.returns-clause-interleaving
returns-clause-interleaving g c =
    let m = g.C.Callbacks.model c.args.callbacks.now in
    let case = c.args.shaped.now.case in
    interleaving_of m (post_asked m) case c.args.history.now (IsRunInOrder (g.O.Order.order c.args.order.now) case) c.in_ok-verdict.verdict c.in_ok-verdict.letters.items c.in_ok-word.word.items c.in_ok-verdict.ensures.letters c.in_ok-word.ensures
