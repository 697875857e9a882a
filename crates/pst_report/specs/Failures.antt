-- Failures of trials as text.
use Rattle.std.specs.Prelude.{◌≡◌, ℕ, List, Option, None, Some, MatchOption, string_bytes}
use Rattle.pst_case.specs.declared.history.Run.{Run}
use Rattle.pst_judge.specs.VerdictText.{verdict_text}
use Rattle.pst_model.specs.declared.model.Source.{Source}
use Rattle.pst_report.specs.Least.{failure_in}
use Rattle.pst_report.specs.Text.{run_line}
use Rattle.pst_report.specs.declared.failures.ShrunkFailure.{ShrunkFailure}
use Rattle.pst_runs.specs.Lines.{line_of}
use Rattle.pst_runs.specs.Written.{run_form}
use Rattle.pst_shrink.specs.declared.shrinking.Shrunk.{Shrunk}
use Rattle.pst_shrink.specs.declared.shrinking.FailingCase.{FailingCase}
use Rattle.pst_trial.specs.RecordView.{RecordView}
use Rattle.pst_trial.specs.declared.record.JudgedRun.{JudgedRun}

-- the case without its replies
abbrev pub case_of : Source → FailingCase JudgedRun → Run
case_of m t = record { shaped = record { model = m; case = t.case }; history = None }

-- the case as a tree on one line
abbrev pub case_line : Source → FailingCase JudgedRun → List ℕ
case_line m t = line_of (run_form m (case_of m t))

-- the texts are those of a case with the history that it broke with, and of the verdict
pub record IsFailureOf (m : Source) (t : FailingCase JudgedRun) (failure : ShrunkFailure) : Type 0 where
  pub case : failure.case.items ≡ case_line m t
  pub run : failure.run.items ≡ run_line m t
  pub verdict : string_bytes failure.verdict ≡ verdict_text t.history.verdict

-- the texts are those of the failure that the case of the trial was shrunk to, if the trial failed
abbrev pub IsLastFailure : RecordView → Option ShrunkFailure → Type 0
IsLastFailure r found =
    MatchOption found (failure_in r.outcome ≡ None)
    (λ failure. (s : Shrunk JudgedRun) × (failure_in r.outcome ≡ Some s) × IsFailureOf r.plan.model s.last failure)
