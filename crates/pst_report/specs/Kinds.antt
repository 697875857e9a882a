-- How the trials of a campaign ended, by kinds.
use Rattle.std.specs.Prelude.{ℕ, ◌==◌, Bool, List}
use Rattle.std.specs.List.{count_by}
use Rattle.pst_judge.specs.declared.judgement.Verdict.{Verdict}
use Rattle.pst_judge.specs.declared.judgement.Verdict.TheVariants as verdict
use Rattle.pst_ledger.specs.declared.entry.Entry.{Entry}
use Rattle.pst_ledger.specs.declared.entry.Entry.TheVariants as entry
use Rattle.pst_report.specs.declared.status.EntryKind.{EntryKind}
use Rattle.pst_report.specs.declared.status.EntryKind.TheVariants.{Passed, Unexplained, Faulted, Broken}
use Rattle.pst_report.specs.declared.status.EntryKind.TheVariants.{GenFaulted, Lost, Undrawn}
use Rattle.pst_shrink.specs.Shrinking.{first_of}
use Rattle.pst_shrink.specs.declared.shrinking.Shrunk.{Shrunk}
use Rattle.pst_shrink.specs.declared.shrinking.FailingCase.{FailingCase}
use Rattle.pst_trial.specs.RecordView.{RecordView}
use Rattle.pst_trial.specs.declared.record.TrialOutcome.{TrialOutcome}
use Rattle.pst_trial.specs.declared.record.TrialOutcome.TheVariants as outcome
use Rattle.pst_trial.specs.declared.record.JudgedRun.{JudgedRun}

-- the trial's own failing run: the first that was shrunk
abbrev pub own_failure : Shrunk JudgedRun → FailingCase JudgedRun
own_failure s = first_of s.before s.last

-- a failed trial, by the verdict on its own failing run (which is never explained)
abbrev pub kind_of_verdict : Verdict → EntryKind
kind_of_verdict (verdict.Explained word) = Passed
kind_of_verdict (verdict.Faulted place) = Faulted
kind_of_verdict (verdict.Unexplained far) = Unexplained
kind_of_verdict (verdict.Broken command) = Broken

abbrev pub kind_of_outcome : TrialOutcome → EntryKind
kind_of_outcome (outcome.GenFaulted place) = GenFaulted
kind_of_outcome (outcome.Passed case runs) = Passed
kind_of_outcome (outcome.Failed earlier shrunk) = kind_of_verdict (own_failure shrunk).history.verdict

-- a number that is held counts as undrawn
abbrev pub kind_of : Entry RecordView → EntryKind
kind_of entry.Undrawn = Undrawn
kind_of entry.Held = Undrawn
kind_of (entry.Done record') = kind_of_outcome record'.outcome
kind_of (entry.Lost cause) = Lost

-- ---- how many there are of a kind

abbrev pub place_of : EntryKind → ℕ
place_of Passed = 0
place_of Unexplained = 1
place_of Faulted = 2
place_of Broken = 3
place_of GenFaulted = 4
place_of Lost = 5
place_of Undrawn = 6

abbrev pub is_same : EntryKind → EntryKind → Bool
is_same kind other = place_of kind == place_of other

abbrev pub count_of : EntryKind → List (Entry RecordView) → ℕ
count_of kind entries = count_by (λ e. is_same (kind_of e) kind) entries
