use Rattle.std.proofs.Common.{◌≡◌, false, take}
use Rattle.std.specs.List.{list_any}
use Rattle.pst_model.specs.Kinds.{holds_call}
use Rattle.pst_model.specs.Parts.{types_of}
use Rattle.pst_typing.proofs.items.parameters_hold_call.Given as goal

abbrev pub invariant-loop-param : goal.invariant-loop-param
invariant-loop-param l = list_any holds_call (types_of (take l.param-index l.params)) ≡ false
