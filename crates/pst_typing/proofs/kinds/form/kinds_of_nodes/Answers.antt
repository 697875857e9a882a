use Rattle.pst_typing.proofs.Taking.{below_at}
use Rattle.pst_typing.proofs.kinds.form.kinds_of_nodes.Goals as goal

pub of_node-requires : goal.of_node-requires
of_node-requires c = below_at _ c.args.parts.now c.loop-part.part-index c.requires c.loop-part-test.true
