use Rattle.pst_typing.proofs.Taking.{moved_below, taken_more}
use Rattle.pst_typing.proofs.kinds.nodes.Nodes.copy_type_from_nodes.Goals as goal

pub add-requires : goal.add-requires
add-requires c =
    rw (c.in_ok-node.ensures, c.as_slice.ensures) (moved_below _ c.loop-at.self _ c.loop-at.places c.loop-at.at c.loop-at.invariant c.get.result.now c.get.ensures.below)

pub loop-at-preserved : goal.loop-at-preserved
loop-at-preserved c =
    taken_more _ c.loop-at.self _ c.loop-at.places c.loop-at.at c.loop-at.invariant c.get.result.now c.get.ensures.below c.get.ensures.has_type c.add.new.self c.in_ok-place.place
    (rw (c.in_ok-node.ensures, c.as_slice.ensures) at c.in_ok-place.ensures) c.push.new.self c.in_ok-push.ensures.ok
