-- What a trial came to, by its plan and its number.
use Rattle.std.specs.Prelude.{◌≡◌, ⊤, ℕ, List, Result, Ok, Err}
use Rattle.pst_case.specs.declared.case.Case.{Case}
use Rattle.pst_eval.specs.declared.callbacks.FaultPlace.{FaultPlace}
use Rattle.pst_gen.specs.Draws.{Draws}
use Rattle.pst_gen.specs.Generated.{IsGenerated}
use Rattle.pst_shrink.specs.Shrinking.{IsShrunk}
use Rattle.pst_shrink.specs.declared.shrinking.AttemptOutcome.TheVariants.{Held, Broke}
use Rattle.pst_shrink.specs.declared.shrinking.Shrunk.{Shrunk}
use Rattle.pst_trial.specs.Driving.{Histories}
use Rattle.pst_trial.specs.JudgedRuns.{IsAnswer}
use Rattle.pst_trial.specs.PlanView.{PlanView}
use Rattle.pst_trial.specs.declared.record.TrialOutcome.{TrialOutcome}
use Rattle.pst_trial.specs.declared.record.TrialOutcome.TheVariants.{GenFaulted, Passed, Failed}
use Rattle.pst_trial.specs.declared.record.JudgedRun.{JudgedRun}
use Rattle.rand_core.specs.Steps.{stream_of, steps_u64_low}
use Rattle.rand_core.specs.Stream.{Stream}
use Rattle.rand_pcg.specs.Lcg.{started, increment_of}
use Rattle.rand_pcg.specs.Pcg.{multiplier_128, pcg64}

-- the random words of a trial: those of the PCG64 generator with the seed, on the stream of its number
abbrev pub words_of : (seed number : ℕ) → Stream
words_of seed number =
    stream_of (steps_u64_low pcg64) (started 128 multiplier_128 seed (increment_of 128 number))

-- the case that is generated from the words of the trial, or the fault of a callback
pub record IsTrialCase (p : PlanView) (number : ℕ) (answer : Result Case FaultPlace) : Type 0 where
  pub words : List ℕ
  pub left : Stream
  pub draws : Draws words (words_of p.settings.seed number) left
  pub generated : IsGenerated p.model p.settings.commands p.settings.branches p.settings.suffix words answer

module _ (may_drive : Histories) (p : PlanView) where
  -- A run of the case is not explained, and the case was shrunk: each case that is taken is the first
  -- candidate of the one before that has a run that is not explained. `driven` is how many candidates were
  -- driven.
  pub record IsFailure (c : Case) (earlier : List JudgedRun) (s : Shrunk JudgedRun) : Type 0 where
    pub run : JudgedRun
    pub broke : IsAnswer may_drive p.model p.settings.order p.settings.repeats c (Broke earlier run)
    pub driven : ℕ
    pub shrunk : IsShrunk (IsAnswer may_drive p.model p.settings.order p.settings.repeats)
        (record { case = c; history = run }) 0 driven p.settings.limit s

  -- what driving, judging and shrinking a case came to
  abbrev pub IsTried : Case → TrialOutcome → Type 0
  IsTried c (GenFaulted place) = ⊥
  IsTried c (Passed case runs) = (case ≡ c) × IsAnswer may_drive p.model p.settings.order p.settings.repeats c (Held runs)
  IsTried c (Failed earlier shrunk) = IsFailure c earlier shrunk

  -- what the trial of a number came to: its words gave a fault, or a case that came to this
  abbrev pub IsSoundBy : (number : ℕ) → TrialOutcome → Type 0
  IsSoundBy number (GenFaulted place) = IsTrialCase p number (Err place)
  IsSoundBy number (Passed c runs) =
      IsTrialCase p number (Ok c) × IsAnswer may_drive p.model p.settings.order p.settings.repeats c (Held runs)
  IsSoundBy number (Failed earlier shrunk) =
      (c : Case) × IsTrialCase p number (Ok c) × IsFailure c earlier shrunk

-- what the trial came to is sound, whatever was driven
abbrev pub IsSound : PlanView → (number : ℕ) → TrialOutcome → Type 0
IsSound = IsSoundBy (λ v h. ⊤)
