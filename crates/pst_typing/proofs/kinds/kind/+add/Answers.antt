use Rattle.pst_typing.proofs.Collecting.{added_more}
use Rattle.pst_typing.proofs.kinds.kind.+add.Goals as goal

pub add_types-loop-ty-preserved : goal.add_types-loop-ty-preserved
add_types-loop-ty-preserved t c =
    added_more _ c.loop-ty.nodes _ c.args.types.now c.loop-ty.numbers _ c.loop-ty.ty-index c.in_ok-number.number c.ty-item.result c.loop-ty.invariant c.loop-ty-test.true c.ty-item.is c.in_ok-number.ensures c.in_ok-push.ensures.ok
