use Rattle.pst_typing.proofs.Collecting.{added_more}
use Rattle.pst_typing.proofs.kinds.kind.add_kinds.Goals as goal

pub loop-kind-preserved : goal.loop-kind-preserved
loop-kind-preserved c =
    added_more _ c.loop-kind.nodes _ c.args.kinds.now c.loop-kind.numbers _ c.loop-kind.kind-index c.in_ok-number.number c.kind-item.result c.loop-kind.invariant c.loop-kind-test.true c.kind-item.is c.in_ok-number.ensures c.in_ok-push.ensures.ok
