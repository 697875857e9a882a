use Rattle.std.proofs.Common.{[], sym, ap, ◌∙◌}
use Rattle.pst_typing.proofs.Exact.{same_nodes}
use Rattle.pst_typing.specs.Nodes.{types_after}
use Rattle.pst_typing.proofs.kinds.nodes.Nodes.equals.Goals as goal

pub returns : goal.returns
returns c e =
    let keys = sym c.as_slice.ensures.keys ∙ same_nodes c.as_slice.result.now c.as_slice-2.result.now (sym c.eq.ensures ∙ e) ∙ c.as_slice-2.ensures.keys in
    sym c.self.view_is ∙ ap (types_after []) keys ∙ c.others.view_is
