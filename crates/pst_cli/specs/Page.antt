-- Failures of a page, one after another.
use Rattle.std.specs.Prelude.{◌≡◌, ℕ, ◌<◌, ◌≤◌, List, [], ◌∷◌, ◌++◌, length}
use Rattle.std.specs.List.{All, Any}
use Rattle.pst_cli.specs.CampaignFailures.{HasRun, IsFailingRun}
use Rattle.pst_cli.specs.declared.failing_run.TrialFailure.{TrialFailure}
use Rattle.pst_shrink.specs.declared.shrinking.Shrunk.{Shrunk}
use Rattle.pst_trial.specs.PlanView.{PlanView}
use Rattle.pst_trial.specs.declared.record.JudgedRun.{JudgedRun}

-- the runs of the failures are failing ones of the plan
abbrev pub AreFailing : PlanView → List TrialFailure → Type 0
AreFailing p failures = All (λ f. IsFailingRun p f.shrunk.now.last) failures

-- nothing is added if there is no room or a failure has the run; else the failure of the trial is
pub data KeepsFailure (most trial : ℕ) (s : Shrunk JudgedRun) (before after : List TrialFailure) : Type 0 where
  full : most ≤ length before → after ≡ before → KeepsFailure most trial s before after
  known : Any (HasRun s) before → after ≡ before → KeepsFailure most trial s before after
  new : (f : TrialFailure) → f.trial ≡ trial → f.shrunk.now ≡ s → length before < most
      → All (λ g. HasRun s g → ⊥) before → after ≡ before ++ f ∷ [] → KeepsFailure most trial s before after
