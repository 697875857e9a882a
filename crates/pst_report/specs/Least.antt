-- The least numbers of two kinds.
use Rattle.std.specs.Prelude.{ℕ, ◌+◌, List, [], ◌∷◌, Option, Some, None}
use Rattle.pst_eval.specs.declared.callbacks.FaultPlace.{FaultPlace}
use Rattle.pst_ledger.specs.declared.entry.Entry.{Entry}
use Rattle.pst_ledger.specs.declared.entry.Entry.TheVariants.{Undrawn, Held, Done, Lost}
use Rattle.pst_shrink.specs.declared.shrinking.Shrunk.{Shrunk}
use Rattle.pst_trial.specs.RecordView.{RecordView}
use Rattle.pst_trial.specs.declared.record.TrialOutcome.{TrialOutcome}
use Rattle.pst_trial.specs.declared.record.TrialOutcome.TheVariants.{GenFaulted, Passed, Failed}
use Rattle.pst_trial.specs.declared.record.JudgedRun.{JudgedRun}

-- where generating the case of a trial faulted
abbrev pub fault_in : TrialOutcome → Option FaultPlace
fault_in (GenFaulted place) = Some place
fault_in (Passed case runs) = None
fault_in (Failed earlier shrunk) = None

-- how the case of a trial was shrunk, where the trial failed
abbrev pub failure_in : TrialOutcome → Option (Shrunk JudgedRun)
failure_in (GenFaulted place) = None
failure_in (Passed case runs) = None
failure_in (Failed earlier shrunk) = Some shrunk

-- what the record of a number has, if there is a record
abbrev pub of_record : {A : Type 0} → (TrialOutcome → Option A) → Entry RecordView → Option A
of_record f Undrawn = None
of_record f Held = None
of_record f (Done r) = f r.outcome
of_record f (Lost cause) = None

-- the number with what its record has, or else what comes later
abbrev pub numbered_or : {A : Type 0} → ℕ → Option A → Option (ℕ × A) → Option (ℕ × A)
numbered_or number None later = later
numbered_or number (Some a) later = Some (number, a)

-- the least number for which generating a case faulted, and where; the first entry has the number
abbrev pub least_fault : ℕ → List (Entry RecordView) → Option (ℕ × FaultPlace)
least_fault number [] = None
least_fault number (e ∷ es) = numbered_or number (of_record fault_in e) (least_fault (number + 1) es)

-- the least number whose trial failed, and how its case was shrunk; the first entry has the number
abbrev pub least_failure : ℕ → List (Entry RecordView) → Option (ℕ × Shrunk JudgedRun)
least_failure number [] = None
least_failure number (e ∷ es) = numbered_or number (of_record failure_in e) (least_failure (number + 1) es)
