use Rattle.std.proofs.Common.{◌≡◌, false, take}
use Rattle.std.specs.List.{list_any}
use Rattle.pst_model.specs.Kinds.{holds_call}
use Rattle.pst_typing.proofs.items.+calls.Given as goal

abbrev pub invariant-any_holds_call-loop-ty : goal.invariant-any_holds_call-loop-ty
invariant-any_holds_call-loop-ty l = list_any holds_call (take l.ty-index l.types) ≡ false
