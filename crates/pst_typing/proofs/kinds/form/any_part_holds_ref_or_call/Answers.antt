use Rattle.pst_typing.proofs.Taking.{below_at}
use Rattle.pst_typing.proofs.kinds.form.any_part_holds_ref_or_call.Goals as goal

pub part_holds_ref_or_call-requires : goal.part_holds_ref_or_call-requires
part_holds_ref_or_call-requires c = below_at _ c.args.parts.now c.loop-part.part-index c.requires c.loop-part-test.true
