use Rattle.std.proofs.Common.{Bool, subst}
use Rattle.pst_reasons.proofs.OneAnswer.{have_each_allowed}
use Rattle.pst_reasons.specs.Allowed.{IsWhetherAll}
use Rattle.pst_judge.proofs.Furthest.{if_ok_map}
use Rattle.pst_reasons.specs.Reasons.{without}
use Rattle.pst_reasons.proofs.allowing.find_allowed_values.Goals as goal

pub returns-clause-allowed : goal.returns-clause-allowed
returns-clause-allowed g c =
    rw (c.as_slice.ensures.value, c.in_ok-others.ensures, c.new.ensures.items) at c.add_allowed_answers.ensures.allowed

pub returns-clause-exact : goal.returns-clause-exact
returns-clause-exact g c =
    let r = c.args.run.now in
    let m = g.C.Callbacks.model r.callbacks.now in
    let order = g.O.Order.order r.order.now in
    let others = without c.args.number c.args.core.now in
    let all = rw (c.as_slice.ensures.value, c.in_ok-others.ensures, c.new.ensures.items) at c.add_allowed_answers.ensures.all in
    if_ok_map _ _ c.add_allowed_answers.result
    (λ found whether is one. let P : Bool → Type 0 = λ b. IsWhetherAll m order r.shaped.now.case r.history.now others c.args.number b found.values in have_each_allowed m order r.shaped.now.case r.history.now others c.args.number one found.values (subst P is whether))
    all
