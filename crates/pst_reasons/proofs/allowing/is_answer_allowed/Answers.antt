use Rattle.std.proofs.Common.{List, ℕ, subst}
use Rattle.pst_reasons.specs.Allowed.{asks_at, is_right}
use Rattle.pst_reasons.specs.Reasons.{IsTrueInOrder}
use Rattle.pst_model.specs.declared.model.Source.{Source}
use Rattle.pst_reasons.proofs.allowing.is_answer_allowed.Goals as goal

pub returns-in-None : goal.returns-in-None
returns-in-None g c =
    let q = c.args.question.now in
    let r = q.run.now in
    let m = g.C.Callbacks.model r.callbacks.now in
    let order = g.O.Order.order r.order.now in
    let P : Source → Type 0 = λ x. (v : List ℕ) → IsTrueInOrder m order r.shaped.now.case r.history.now (λ s e. asks_at q.number (λ t d. is_right x t d c.args.answer.now) q.others.now m s e) v → ⊥ in
    let none = subst P c.requires.same (rw c.in-None.is at c.in_ok-_word.ensures) in
    λ allowed. none allowed.0 allowed.1
