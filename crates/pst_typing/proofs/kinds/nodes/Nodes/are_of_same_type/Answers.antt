use Rattle.pst_typing.proofs.Injective.{same_number}
use Rattle.pst_typing.proofs.kinds.nodes.Nodes.are_of_same_type.Goals as goal

pub returns : goal.returns
returns c =
    let s = same_number c.self.inside.nodes.keys c.self.invariant c.len-count.ensures.unique c.args.first c.args.second in
    rw c.self.view_is at s c.requires.first c.requires.second
