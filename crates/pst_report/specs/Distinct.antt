-- The failures of a campaign, each shrunk case once.
use Rattle.std.specs.Prelude.{◌≡◌, ◌⊎◌, ℕ, ◌<◌, List, [], ◌∷◌, ◌++◌, Some, None, length, slice_get}
use Rattle.std.specs.List.{All, Any, AllPairs}
use Rattle.pst_ledger.specs.declared.entry.Entry.{Entry}
use Rattle.pst_ledger.specs.declared.entry.Entry.TheVariants.{Done}
use Rattle.pst_report.specs.Failures.{IsFailureOf, case_line}
use Rattle.pst_report.specs.Least.{failure_in}
use Rattle.pst_report.specs.declared.failures.NumberedFailure.{NumberedFailure}
use Rattle.pst_shrink.specs.declared.shrinking.Shrunk.{Shrunk}
use Rattle.pst_trial.specs.RecordView.{RecordView}
use Rattle.pst_trial.specs.declared.record.JudgedRun.{JudgedRun}

-- the failure has the case, as a tree and a line end
abbrev pub HasCase : List ℕ → NumberedFailure → Type 0
HasCase case f = f.failure.case.items ≡ case

-- the trial failed, and its case was shrunk so
abbrev pub IsShrunk : RecordView → Shrunk JudgedRun → Type 0
IsShrunk r s = failure_in r.outcome ≡ Some s

-- the failure has the number, and is the one that the case of the trial was shrunk to
abbrev pub IsFailureAt : ℕ → RecordView → NumberedFailure → Type 0
IsFailureAt number r f =
    (s : Shrunk JudgedRun) × (f.number ≡ number) × IsShrunk r s × IsFailureOf r.plan.model s.last f.failure

-- the failure is that of the record of its number
abbrev pub IsRecorded : List (Entry RecordView) → NumberedFailure → Type 0
IsRecorded entries f =
    (r : RecordView) × (slice_get entries f.number ≡ Some (Done r)) × IsFailureAt f.number r f

-- each trial below the limit that failed has a failure with the case that its own was shrunk to
abbrev pub AllHaveCase : ℕ → List (Entry RecordView) → List NumberedFailure → Type 0
AllHaveCase limit entries failures =
    (k : ℕ) (r : RecordView) (s : Shrunk JudgedRun) → k < limit → slice_get entries k ≡ Some (Done r) → IsShrunk r s
    → Any (HasCase (case_line r.plan.model s.last)) failures

-- two failures have different cases
abbrev pub HaveOtherCases : NumberedFailure → NumberedFailure → Type 0
HaveOtherCases f g = HasCase g.failure.case.items f → ⊥

-- the failures are those of records below the limit, each case once
pub record AreDistinctBelow (limit : ℕ) (entries : List (Entry RecordView)) (failures : List NumberedFailure) : Type 0 where
  pub recorded : All (IsRecorded entries) failures
  pub all : AllHaveCase limit entries failures
  pub once : AllPairs HaveOtherCases failures

-- the failures are those of the records, each case once
abbrev pub AreDistinctFailures : List (Entry RecordView) → List NumberedFailure → Type 0
AreDistinctFailures entries failures = AreDistinctBelow (length entries) entries failures

-- nothing is added for a trial that did not fail, or if there is a failure with its case; else its failure is
pub data Keeps (number : ℕ) (r : RecordView) (before after : List NumberedFailure) : Type 0 where
  passed : failure_in r.outcome ≡ None → after ≡ before → Keeps number r before after
  known : (s : Shrunk JudgedRun) → IsShrunk r s → Any (HasCase (case_line r.plan.model s.last)) before
      → after ≡ before → Keeps number r before after
  new : (f : NumberedFailure) → IsFailureAt number r f → All (λ g. HaveOtherCases g f) before
      → after ≡ before ++ f ∷ [] → Keeps number r before after
