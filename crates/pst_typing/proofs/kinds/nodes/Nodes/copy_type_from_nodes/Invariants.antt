use Rattle.pst_typing.proofs.Taking.{IsTaken}
use Rattle.pst_typing.proofs.kinds.nodes.Nodes.copy_type_from_nodes.Given as goal

abbrev pub invariant-loop-at : goal.invariant-loop-at
invariant-loop-at l = IsTaken l.fn.self l.self l.others l.places l.at
