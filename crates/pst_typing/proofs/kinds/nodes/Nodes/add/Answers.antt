use Rattle.pst_typing.proofs.Answering.{inserted}
use Rattle.pst_typing.proofs.kinds.nodes.Nodes.add.Goals as goal

pub invariant_of-self-2 : goal.invariant_of-self-2
invariant_of-self-2 c =
    let s = c.in_ok-number.ensures.stored in
    (inserted c.self.inside.nodes.keys c.self.invariant c.args.self.now c.self.view_is c.args.node c.requires c.in_ok-number.number s.0 c.insert_full.new.self.keys c.in_ok-number.ensures.keys s.1 s.2).1

pub returns : goal.returns
returns c =
    let s = c.in_ok-number.ensures.stored in
    (inserted c.self.inside.nodes.keys c.self.invariant c.args.self.now c.self.view_is c.args.node c.requires c.in_ok-number.number s.0 c.insert_full.new.self.keys c.in_ok-number.ensures.keys s.1 s.2).0
