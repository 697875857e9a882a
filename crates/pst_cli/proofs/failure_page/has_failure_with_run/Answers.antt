use Rattle.std.proofs.Common.{◌≡◌, ◌∙◌, ◌+◌, ◌<◌, ◌≤◌, ℕ, List, arith, ap, get_or, length, subst, sym}
use Rattle.std.proofs.lemmas.Bool.Decides.{not_from_Decides}
use Rattle.std.proofs.lemmas.List.{get_or_default}
use mathlib.Core.Logic.{dite}
use native.Mathlib.Decide.{dec_le}
use Rattle.pst_cli.proofs.Equal.{case_decides, history_decides}
use Rattle.pst_cli.specs.CampaignFailures.{HasRun}
use Rattle.pst_cli.specs.declared.failing_run.TrialFailure.{TrialFailure}
use Rattle.pst_shrink.specs.declared.shrinking.Shrunk.{Shrunk}
use Rattle.pst_trial.specs.declared.record.JudgedRun.{JudgedRun}
use Rattle.pst_cli.proofs.failure_page.has_failure_with_run.Goals.{else-eq-via-then-eq+else-eq-2, else-eq-via-else-eq}
use Rattle.pst_cli.proofs.failure_page.has_failure_with_run.Goals as goal

pub returns-then-eq-2 : goal.returns-then-eq-2
returns-then-eq-2 c =
    let found = c.failure-item.result.shrunk.now.last in
    let last = c.args.shrunk.now.last in (
      c.loop-failure.failure-index,
      c.failure-item.result,
      c.loop-failure-test.true,
      sym c.failure-item.is,
      (
        (case_decides found.case last.case).0 (sym c.if-eq.ensures),
        (history_decides found.history.history last.history.history).0 (sym c.if-eq-2.ensures),
      ),
    )

-- none of the failures up to one without the run has it
none_more : (failures : List TrialFailure) (s : Shrunk JudgedRun) (n : ℕ) (f : TrialFailure) → f ≡ get_or failures n f → n < length failures
    → (HasRun s f → ⊥) → ((k : ℕ) (d : TrialFailure) → k < n → HasRun s (get_or failures k d) → ⊥)
    → (k : ℕ) (d : TrialFailure) → k < n + 1 → HasRun s (get_or failures k d) → ⊥
none_more failures s n f is lt other none k d small has = dite (dec_le n k)
    (λ (le : n ≤ k).
    let same : k ≡ n = omega (arith, small, le) in
    let at : get_or failures k d ≡ f = ap (λ j. get_or failures j d) same ∙ get_or_default failures n d f lt ∙ sym is in
    other (subst (HasRun s) at has))
    (λ gt. none k d (omega (arith, gt)) has)

pub loop-failure-preserved : goal.loop-failure-preserved
loop-failure-preserved c =
    let found = c.failure-item.result.shrunk.now.last in
    let last = c.args.shrunk.now.last in
    let other : HasRun c.args.shrunk.now c.failure-item.result → ⊥ = elim c.else-eq.branch [
      | else-eq-via-then-eq+else-eq-2 w ↦ λ has. not_from_Decides _ (history_decides found.history.history last.history.history) (sym w.if-eq-2.ensures) has.1
      | else-eq-via-else-eq w ↦ λ has. not_from_Decides _ (case_decides found.case last.case) (sym w.if-eq.ensures) has.0
    ] in
    none_more c.args.failures.now c.args.shrunk.now c.loop-failure.failure-index c.failure-item.result c.failure-item.is c.loop-failure-test.true other
    c.loop-failure.invariant
