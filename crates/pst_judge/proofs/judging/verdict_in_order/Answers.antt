use Rattle.pst_judge.proofs.Furthest.{if_ok_map}
use Rattle.pst_judge.proofs.InPost.{ordered_in_post}
use Rattle.pst_judge.proofs.judging.verdict_in_order.Goals as goal

pub returns-clause-faults : goal.returns-clause-faults
returns-clause-faults g c =
    let m = g.C.Callbacks.model c.args.callbacks.now in
    if_ok_map _ _ c.verdict_with_condition_in_order.result (λ v is well valid. ordered_in_post m c.args.shaped.now.case well (rw c.requires.model at c.case-case.ensures.shape) valid c.args.history.now c.requires.matches v (g.O.Order.order c.args.order.now) is) c.verdict_with_condition_in_order.ensures
