use Rattle.std.proofs.Common.{take}
use Rattle.pst_typing.specs.Adding.{AreAdded}
use Rattle.pst_typing.proofs.kinds.kind.add_kinds.Given as goal

abbrev pub invariant-loop-kind : goal.invariant-loop-kind
invariant-loop-kind l = AreAdded l.fn.nodes l.nodes l.numbers (take l.kind-index l.kinds)
