-- What the judged runs of a case say.
use Rattle.std.specs.Prelude.{◌≡◌, ◌⊎◌, ℕ, ◌<◌, Bool, true, false, List, [], ◌∷◌, length}
use Rattle.pst_case.specs.Matches.{matches}
use Rattle.pst_case.specs.OfModel.{OfModel}
use Rattle.pst_case.specs.Unknown.{times_of_calls}
use Rattle.pst_case.specs.declared.case.Case.{Case}
use Rattle.pst_driver.specs.declared.driving.DriveFault.{DriveFault}
use Rattle.pst_driver.specs.declared.driving.DriveFault.TheVariants.{NoMemory}
use Rattle.pst_gen.specs.Accepted.{IsAccepted}
use Rattle.pst_judge.specs.ByOrder.{IsVerdictBy}
use Rattle.pst_judge.specs.declared.by_order.CallOrder.{CallOrder}
use Rattle.pst_judge.specs.declared.judgement.Verdict.{Verdict}
use Rattle.pst_judge.specs.declared.judgement.Verdict.TheVariants.{Explained, Faulted, Unexplained, Broken}
use Rattle.pst_model.specs.declared.model.Source.{Source}
use Rattle.pst_shrink.specs.Outcomes.{Answers}
use Rattle.pst_shrink.specs.declared.shrinking.AttemptOutcome.TheVariants.{NotValid, Held, Broke}
use Rattle.pst_trial.specs.Driving.{Histories, Faults}
use Rattle.pst_trial.specs.declared.record.JudgedRun.{JudgedRun}

-- whether a verdict explains its history
abbrev pub is_explained : Verdict → Bool
is_explained (Explained word) = true
is_explained (Faulted place) = false
is_explained (Unexplained far) = false
is_explained (Broken number) = false

module _ (may_drive : Histories) (m : Source) (order : CallOrder) where
  -- a run of a case: its history matches the case and may be recorded of it, its times fit its calls, and its
  -- verdict is that of this history by the order
  pub record IsJudgedRun (c : Case) (r : JudgedRun) : Type 0 where
    pub matching : matches m c r.history ≡ true
    pub timed : times_of_calls r.history ≡ r.history.times
    pub judged : IsVerdictBy order m c r.history r.verdict
    pub driven : may_drive (record { model = m; case = c }) r.history

  -- runs of a case that are all explained
  abbrev pub AreExplained : Case → List JudgedRun → Type 0
  AreExplained c [] = Unit {0}
  AreExplained c (r ∷ rs) = IsJudgedRun c r × (is_explained r.verdict ≡ true) × AreExplained c rs

  -- What an attempt at a case may answer, where it is driven up to so many times: the case is not accepted;
  -- or it is, and all of its runs are explained, or just the last of them is not.
  abbrev pub IsAnswer : (repeats : ℕ) → Answers JudgedRun
  IsAnswer repeats c NotValid = IsAccepted m c → ⊥
  IsAnswer repeats c (Held rs) = IsAccepted m c × AreExplained c rs × (length rs ≡ repeats)
  IsAnswer repeats c (Broke rs r) =
      IsAccepted m c × AreExplained c rs × (length rs < repeats)
      × IsJudgedRun c r × (is_explained r.verdict ≡ false)

-- a fault of driving some case, or memory was refused
abbrev pub MayFail : Faults → DriveFault → Type 0
MayFail may_fail f = ((v : OfModel) × may_fail v f) ⊎ (f ≡ NoMemory)
