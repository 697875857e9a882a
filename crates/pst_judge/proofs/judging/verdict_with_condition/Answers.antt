use Rattle.pst_grid.proofs.Orderless.{any-blocks-never}
use Rattle.pst_judge.proofs.Furthest.{if_ok_map}
use Rattle.pst_judge.proofs.InOrder.{any_to_verdict}
use Rattle.pst_judge.specs.Replay.{branch_lengths}
use Rattle.pst_judge.proofs.judging.verdict_with_condition.Goals as goal

pub verdict_with_condition_in_order-requires-clause-progress : goal.verdict_with_condition_in_order-requires-clause-progress
verdict_with_condition_in_order-requires-clause-progress g c = any-blocks-never (branch_lengths c.args.shaped.now.case)

pub returns : goal.returns
returns g c =
    let m = g.C.Callbacks.model c.args.callbacks.now in
    if_ok_map _ _ c.verdict_with_condition_in_order.result (λ v is. any_to_verdict m (g.A.Condition.asked c.args.condition.now m) c.args.shaped.now.case c.args.history.now v is) c.verdict_with_condition_in_order.ensures
