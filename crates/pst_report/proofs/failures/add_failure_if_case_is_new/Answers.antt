use Rattle.std.proofs.Common.{◌≡◌, ◌∙◌, ap, ℕ, List, refl, sym, subst}
use Rattle.std.specs.List.{Any, All}
use Rattle.pst_report.specs.Distinct.{Keeps, known, new, HasCase, HaveOtherCases}
use Rattle.pst_report.specs.declared.failures.NumberedFailure.{NumberedFailure}
use Rattle.pst_report.proofs.failures.add_failure_if_case_is_new.Goals as goal

pub returns-then-has_failure_with_case : goal.returns-then-has_failure_with_case
returns-then-has_failure_with_case c =
    let found = rw c.in-Some.is at c.in_ok-failure.ensures in
    let any = subst (λ (l : List NumberedFailure). Any (HasCase c.as_slice-2.result.now) l) c.as_slice.ensures.value c.if-has_failure_with_case.ensures in
    known found.0 found.1
    (subst (λ (case : List ℕ). Any (HasCase case) c.args.failures.now.items) (c.as_slice-2.ensures.value ∙ found.2.case) any)
    refl

pub returns : goal.returns
returns c =
    let found = rw c.in-Some.is at c.in_ok-failure.ensures in
    let none = subst (λ (l : List NumberedFailure). All (λ f. HasCase c.as_slice-2.result.now f → ⊥) l) c.as_slice.ensures.value c.if-has_failure_with_case.ensures in
    let f : NumberedFailure = record { number = c.args.number; failure = c.in-Some.failure } in
    let others : All (λ g. HaveOtherCases g f) c.args.failures.now.items =
    subst (λ (case : List ℕ). All (λ g. HasCase case g → ⊥) c.args.failures.now.items) c.as_slice-2.ensures.value none in
    new f (found.0, refl, found.1, found.2) others c.in_ok-push.ensures.items
