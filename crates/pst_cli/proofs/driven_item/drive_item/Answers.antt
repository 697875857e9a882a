use Rattle.std.proofs.Common.{◌≡◌, ◌⊎◌, Option, None, ap, subst}
use Rattle.pst_case.specs.OfModel.{OfModel}
use Rattle.pst_case.specs.declared.case.Case.{Case}
use Rattle.pst_cli.proofs.Repeating.{invalid_case}
use Rattle.pst_judge.specs.Validity.{IsWhy}
use Rattle.pst_judge.specs.declared.validated.Why.TheVariants.{NoMemory}
use Rattle.pst_cli.proofs.driven_item.drive_item.Goals as goal

pub returns-in-Err-clause-driven : goal.returns-in-Err-clause-driven
returns-in-Err-clause-driven g c =
    let why = c.in-Err.refused.1 in
    let same : c.in_ok-copy.copy.case ≡ c.args.run.now.shaped.case = ap (λ (v : OfModel). v.case) c.in_ok-copy.ensures in
    let OfCase : Case → Type 0 = λ k. (why ≡ NoMemory) ⊎ IsWhy c.args.judge.now.callbacks.now k why in
    invalid_case c.args.judge.now.order c.args.judge.now.callbacks.now _ _ _ c.args.repeats c.args.run.now.shaped.case why
    (subst OfCase same c.in-Err.ensures.refused.1) c.invalid_item.result c.invalid_item.ensures.reason c.invalid_item.ensures.item
