use Rattle.std.proofs.Common.{length, ap, arith}
use Rattle.pst_typing.proofs.Answering.{read}
use Rattle.pst_typing.proofs.Growing.{types_length}
use Rattle.pst_typing.proofs.kinds.nodes.Nodes.get.Goals as goal

pub returns-clause-has_type : goal.returns-clause-has_type
returns-clause-has_type c =
    (read c.self.inside.nodes.keys c.self.invariant c.args.self.now c.self.view_is c.args.number c.in-Some.node.now c.in-Some.ensures.key).0

pub returns-clause-below : goal.returns-clause-below
returns-clause-below c =
    (read c.self.inside.nodes.keys c.self.invariant c.args.self.now c.self.view_is c.args.number c.in-Some.node.now c.in-Some.ensures.key).1

pub unreachable-requires : goal.unreachable-requires
unreachable-requires c =
    let none = c.in-None.ensures.found.1 (omega (arith, types_length c.self.inside.nodes.keys c.self.invariant, ap length c.self.view_is)) in
    cc
