use Rattle.std.proofs.Common.{◌≡◌, map, take}
use Rattle.pst_typing.specs.Nodes.{type_at}
use Rattle.pst_typing.proofs.kinds.form.kinds_of_nodes.Given as goal

abbrev pub invariant-loop-part : goal.invariant-loop-part
invariant-loop-part l = l.kinds ≡ map (type_at l.nodes.value) (take l.part-index l.parts)
