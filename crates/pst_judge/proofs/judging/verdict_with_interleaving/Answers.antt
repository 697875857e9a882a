use Rattle.pst_grid.proofs.Orderless.{any-blocks-never}
use Rattle.pst_judge.proofs.Furthest.{if_ok_map}
use Rattle.pst_judge.proofs.InOrder.{any_to_interleaving, any_to_verdict}
use Rattle.pst_judge.specs.Replay.{branch_lengths, post_asked}
use Rattle.pst_judge.proofs.judging.verdict_with_interleaving.Goals as goal

pub verdict_with_interleaving_in_order-requires-clause-progress : goal.verdict_with_interleaving_in_order-requires-clause-progress
verdict_with_interleaving_in_order-requires-clause-progress g c = any-blocks-never (branch_lengths c.args.shaped.now.case)

pub returns-clause-verdict : goal.returns-clause-verdict
returns-clause-verdict g c =
    let m = g.C.Callbacks.model c.args.callbacks.now in
    if_ok_map _ _ c.verdict_with_interleaving_in_order.result (λ r is. any_to_verdict m (post_asked m) c.args.shaped.now.case c.args.history.now r.0 is) c.verdict_with_interleaving_in_order.ensures.verdict

pub returns-clause-interleaving : goal.returns-clause-interleaving
returns-clause-interleaving g c =
    let m = g.C.Callbacks.model c.args.callbacks.now in
    if_ok_map _ _ c.verdict_with_interleaving_in_order.result (λ r is. any_to_interleaving m c.args.shaped.now.case c.args.history.now r.0 r.1.items is) c.verdict_with_interleaving_in_order.ensures.interleaving
