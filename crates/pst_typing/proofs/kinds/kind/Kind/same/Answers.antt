use Rattle.std.proofs.Common.{sym, ap, ◌∙◌}
use Rattle.pst_typing.specs.Nodes.{type_at}
use Rattle.pst_typing.proofs.kinds.kind.Kind.same.Goals as goal
use Rattle.pst_value.proofs.ExactTypes.{same_ty-Decides}

pub returns-then-equals : goal.returns-then-equals
returns-then-equals c =
    let nodes = sym c.as_ref.ensures ∙ c.equals.ensures c.if-equals.true ∙ c.as_ref-then-self-other.ensures in
    let types = sym c.self.view_is ∙ ap (λ ns. type_at ns c.self.inside.root) nodes ∙ ap (type_at c.other.inside.nodes.value) c.if-self-other.true ∙ c.other.view_is in
    sym ((same_ty-Decides c.args.self.now c.args.other.now).1 types)
