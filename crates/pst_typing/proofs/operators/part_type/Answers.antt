use Rattle.pst_typing.proofs.Formed.{part_none, part_get}
use Rattle.pst_typing.proofs.operators.part_type.Goals as goal

pub returns-in_default : goal.returns-in_default
returns-in_default c = part_none c.in_ok-kinds.field-0 c.args.tuple.now c.in_ok-kinds.ensures c.args.place c.in_default.not-Tuple

pub returns : goal.returns
returns c =
    rw (part_get c.in_ok-kinds.field-0 c.args.tuple.now c.in_ok-kinds.ensures c.args.place c.in-Tuple.kinds c.in-Tuple.is c.if-place-eq0.false)
    (rw c.get.ensures.value at c.copy_kind_or_refuse.ensures)
