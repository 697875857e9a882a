-- The run that the case of a trial was shrunk to is one of the case, with the verdict on it, which does not explain it.
use Rattle.std.proofs.Common.{◌≡◌, ℕ, List, [], ◌∷◌, Option, Some, None, refl, sym, subst}
use Rattle.std.specs.Prelude.{⊤, IfSome}
use Rattle.pst_case.specs.declared.history.Run.{Run}
use Rattle.pst_cli.specs.CampaignFailures.{IsFailingRun}
use Rattle.pst_judge.specs.Judgement.{IsJudgementBy}
use Rattle.pst_judge.specs.declared.judgement.Judged.{Judged}
use Rattle.pst_judge.specs.declared.judgement.Judged.TheVariants as judged
use Rattle.pst_ledger.specs.declared.entry.Entry.{Entry}
use Rattle.pst_ledger.specs.declared.entry.Entry.TheVariants.{Done}
use Rattle.pst_rejudge.specs.Judging.{MayBeJudged}
use Rattle.pst_report.specs.InOrder.{IsOf}
use Rattle.pst_report.specs.Text.{run_of}
use Rattle.pst_shrink.specs.Shrinking.{first_of, IsTrail}
use Rattle.pst_shrink.specs.declared.shrinking.FailingCase.{FailingCase}
use Rattle.pst_shrink.specs.declared.shrinking.Shrunk.{Shrunk}
use Rattle.pst_trial.specs.JudgedRuns.{IsAnswer}
use Rattle.pst_trial.specs.PlanView.{PlanView}
use Rattle.pst_trial.specs.RecordView.{RecordView}
use Rattle.pst_trial.specs.Sound.{IsSound}
use Rattle.pst_trial.specs.declared.record.JudgedRun.{JudgedRun}
use Rattle.pst_trial.specs.declared.record.TrialOutcome.TheVariants.{Failed}

module _ (p : PlanView) where
  last_fails : (before : List (FailingCase JudgedRun)) (last : FailingCase JudgedRun)
      → IsFailingRun p (first_of before last) → IsTrail (IsAnswer (λ v h. ⊤) p.model p.settings.order p.settings.repeats) before last
      → IsFailingRun p last
  last_fails [] last h trail = h
  last_fails (t ∷ ts) last h trail =
      last_fails ts last (record { judged = trail.0.broke.3; unexplained = trail.0.broke.4 }) trail.1

  pub sound_fails : (number : ℕ) (earlier : List JudgedRun) (s : Shrunk JudgedRun) → IsSound p number (Failed earlier s)
      → IsFailingRun p s.last
  sound_fails number earlier s h =
      let failure = h.2 in
      let first : IsFailingRun p (first_of s.before s.last) =
      subst (IsFailingRun p) (sym failure.shrunk.begins) (record { judged = failure.broke.3; unexplained = failure.broke.4 }) in
      last_fails s.before s.last first failure.shrunk.trail

  -- so it may be judged, and its verdict is a judgement
  pub run_may_be : (t : FailingCase JudgedRun) (run : Run) → IsFailingRun p t → run ≡ run_of p.model t → MayBeJudged p.model run
  run_may_be t run h same = subst (MayBeJudged p.model) (sym same) (refl, h.judged.matching)

  pub is_judgement : (t : FailingCase JudgedRun) (run : Run) → IsFailingRun p t → run ≡ run_of p.model t
      → IsJudgementBy p.settings.order p.model run (judged.Verdict t.history.verdict)
  is_judgement t run h same =
      let Of : Run → Type 0 = λ r. IsJudgementBy p.settings.order p.model r (judged.Verdict t.history.verdict) in
      subst Of (sym same) h.judged.judged

-- what a record has by its own plan it has by each plan that it is of
pub by_plan : {A : Type 0} (P : PlanView → A → Type 0) (r : RecordView) (e : Entry RecordView) → e ≡ Done r
    → (found : Option A) → IfSome found (P r.plan) → IfSome found (λ a. (p : PlanView) (number : ℕ) → IsOf p number e → P p a)
by_plan P r e same None h = tt
by_plan P r e same (Some a) h = λ p number is.
    let here : IsOf p number (Done r) = subst (IsOf p number) same is in
    subst (λ (q : PlanView). P q a) here.0 h
