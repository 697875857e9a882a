use Rattle.std.proofs.Common.{arith}
use Rattle.pst_typing.proofs.Held.{held_more}
use Rattle.pst_typing.proofs.kinds.form.node_holds_ref_or_call.Goals as goal

pub loop-at-preserved : goal.loop-at-preserved
loop-at-preserved c =
    held_more c.args.nodes.now c.loop-at.at c.get.result.now c.holds_ref_or_call_by_parts-holds.result c.loop-at.held c.push.new.self (omega arith) c.get.ensures.below c.get.ensures.has_type
    c.loop-at.invariant (rw c.as_slice.ensures at c.holds_ref_or_call_by_parts-holds.ensures) c.in_ok-push.ensures.ok
