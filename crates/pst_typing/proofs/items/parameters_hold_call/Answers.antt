use Rattle.std.proofs.Common.{◌≡◌, true, sym, ap, ◌∙◌, get_or}
use Rattle.pst_model.specs.Kinds.{holds_call}
use Rattle.pst_typing.proofs.Holding.{calls_among}
use Rattle.pst_typing.proofs.items.parameters_hold_call.Goals as goal

pub returns-then-holds_call : goal.returns-then-holds_call
returns-then-holds_call c =
    let h : holds_call (get_or c.args.params.now c.loop-param.param-index c.param-item.result).ty ≡ true = ap (λ p. holds_call p.ty) (sym c.param-item.is) ∙ sym c.holds_call.ensures ∙ c.if-holds_call.true in
    sym (calls_among c.args.params.now c.loop-param.param-index c.param-item.result c.loop-param-test.true h)
