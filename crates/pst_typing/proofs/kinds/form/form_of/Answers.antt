use Rattle.std.proofs.Common.{length, arith}
use Rattle.pst_typing.proofs.Injective.{AreBelow_more}
use Rattle.pst_typing.proofs.kinds.form.form_of.Goals as goal

pub kinds_of_nodes-requires : goal.kinds_of_nodes-requires
kinds_of_nodes-requires c =
    rw c.as_slice.ensures (AreBelow_more c.args.number (length c.args.nodes.now.value) (omega arith) c.in-Tuple.parts (rw c.in-Tuple.is at c.get.ensures.below))
