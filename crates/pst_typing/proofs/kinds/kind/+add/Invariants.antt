use Rattle.std.proofs.Common.{take}
use Rattle.pst_typing.specs.Adding.{AreAdded}
use Rattle.pst_typing.proofs.kinds.kind.+add.Given as goal

abbrev pub invariant-add_types-loop-ty : goal.invariant-add_types-loop-ty
invariant-add_types-loop-ty l = AreAdded l.fn.nodes l.nodes l.numbers (take l.ty-index l.types)
