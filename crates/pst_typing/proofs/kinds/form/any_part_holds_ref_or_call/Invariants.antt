use Rattle.std.proofs.Common.{◌≡◌, false, take}
use Rattle.std.specs.List.{list_any}
use Rattle.pst_typing.specs.Forms.{held_at}
use Rattle.pst_typing.proofs.kinds.form.any_part_holds_ref_or_call.Given as goal

abbrev pub invariant-loop-part : goal.invariant-loop-part
invariant-loop-part l = list_any (held_at l.held) (take l.part-index l.parts) ≡ false
