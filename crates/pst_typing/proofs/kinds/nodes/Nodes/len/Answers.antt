use Rattle.std.proofs.Common.{length, sym, ap, ◌∙◌}
use Rattle.pst_typing.proofs.Growing.{types_length}
use Rattle.pst_typing.proofs.kinds.nodes.Nodes.len.Goals as goal

pub returns : goal.returns
returns c = c.len.ensures.len ∙ sym (types_length c.self.inside.nodes.keys c.self.invariant) ∙ ap length c.self.view_is
