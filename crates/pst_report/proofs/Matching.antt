-- The runs of a failure match their cases.
use Rattle.std.proofs.Common.{ℕ, List, [], ◌∷◌, sym, subst}
use Rattle.pst_judge.specs.declared.by_order.CallOrder.{CallOrder}
use Rattle.pst_model.specs.declared.model.Source.{Source}
use Rattle.pst_report.specs.Kinds.{own_failure}
use Rattle.pst_report.specs.Matching.{IsMatching, AreMatching}
use Rattle.pst_shrink.specs.Shrinking.{first_of, IsTrail}
use Rattle.pst_shrink.specs.declared.shrinking.Shrunk.{Shrunk}
use Rattle.pst_shrink.specs.declared.shrinking.FailingCase.{FailingCase}
use Rattle.pst_trial.specs.Driving.{Histories}
use Rattle.pst_trial.specs.JudgedRuns.{IsAnswer}
use Rattle.pst_trial.specs.PlanView.{PlanView}
use Rattle.pst_trial.specs.Sound.{IsSound}
use Rattle.pst_trial.specs.declared.record.TrialOutcome.TheVariants.{Failed}
use Rattle.pst_trial.specs.declared.record.JudgedRun.{JudgedRun}

module _ (may_drive : Histories) (m : Source) (order : CallOrder) (repeats : ℕ) where
  last_matches : (before : List (FailingCase JudgedRun)) (last : FailingCase JudgedRun)
      → IsMatching m (first_of before last) → IsTrail (IsAnswer may_drive m order repeats) before last
      → IsMatching m last
  last_matches [] last h trail = h
  last_matches (t ∷ ts) last h trail = last_matches ts last (record { matching = trail.0.broke.3.matching; timed = trail.0.broke.3.timed }) trail.1

pub sound_matches : (p : PlanView) (number : ℕ) (earlier : List JudgedRun) (s : Shrunk JudgedRun)
    → IsSound p number (Failed earlier s) → AreMatching p.model s
sound_matches p number earlier s h =
    let failure = h.2 in
    let first : IsMatching p.model (own_failure s) =
    subst (IsMatching p.model) (sym failure.shrunk.begins) (record { matching = failure.broke.3.matching; timed = failure.broke.3.timed }) in
    record {
      first = first;
      last = last_matches _ p.model p.settings.order p.settings.repeats s.before s.last first failure.shrunk.trail;
    }
