use Rattle.std.proofs.Common.{List, ℕ, subst}
use Rattle.std.specs.Prelude.{IfOk, MatchOption}
use Rattle.pst_reasons.specs.Allowed.{asks_at, none_is_right}
use Rattle.pst_reasons.specs.Reasons.{IsTrueInOrder}
use Rattle.pst_model.specs.declared.model.Source.{Source}
use Rattle.pst_reasons.proofs.allowing.interleaving_where_answers_are_wrong.Goals as goal

pub returns : goal.returns
returns g c =
    let q = c.args.question.now in
    let r = q.run.now in
    let m = g.C.Callbacks.model r.callbacks.now in
    let order = g.O.Order.order r.order.now in
    let Ends : Source → List ℕ → Type 0 = λ x v. IsTrueInOrder m order r.shaped.now.case r.history.now (λ s e. asks_at q.number (λ t d. none_is_right x t d c.args.answers.now) q.others.now m s e) v in
    let P : Source → Type 0 = λ x. IfOk c.interleaving_satisfying_condition.result (λ merge. MatchOption merge ((v : List ℕ) → Ends x v → ⊥) (λ word. Ends x word.items)) in
    subst P c.requires.same c.interleaving_satisfying_condition.ensures
