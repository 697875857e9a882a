use Rattle.pst_typing.proofs.Taking.{below_at}
use Rattle.pst_typing.proofs.kinds.nodes.renumbered_parts.Goals as goal

pub new_number_of_part-requires : goal.new_number_of_part-requires
new_number_of_part-requires c = below_at _ c.args.parts.now c.loop-part.part-index c.requires c.loop-part-test.true
