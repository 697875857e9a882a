-- Which trials of a campaign had calls of unknown outcome.
use Rattle.std.specs.Prelude.{ℕ, ◌||◌, Bool, true, false, List}
use Rattle.std.specs.List.{count_by, list_any}
use Rattle.pst_case.specs.Unknown.{has_unknown}
use Rattle.pst_ledger.specs.declared.entry.Entry.{Entry}
use Rattle.pst_ledger.specs.declared.entry.Entry.TheVariants as entry
use Rattle.pst_shrink.specs.declared.shrinking.FailingCase.{FailingCase}
use Rattle.pst_trial.specs.RecordView.{RecordView}
use Rattle.pst_trial.specs.declared.record.JudgedRun.{JudgedRun}
use Rattle.pst_trial.specs.declared.record.TrialOutcome.{TrialOutcome}
use Rattle.pst_trial.specs.declared.record.TrialOutcome.TheVariants as outcome

-- a call of the run has an unknown outcome
abbrev pub is_uncertain : JudgedRun → Bool
is_uncertain run = has_unknown run.history

abbrev pub fails_uncertainly : FailingCase JudgedRun → Bool
fails_uncertainly failing = is_uncertain failing.history

-- a call of a recorded run of the trial has an unknown outcome
abbrev pub is_uncertain_trial : TrialOutcome → Bool
is_uncertain_trial (outcome.GenFaulted place) = false
is_uncertain_trial (outcome.Passed case runs) = list_any is_uncertain runs
is_uncertain_trial (outcome.Failed earlier shrunk) =
    list_any is_uncertain earlier || list_any fails_uncertainly shrunk.before || fails_uncertainly shrunk.last

abbrev pub is_uncertain_entry : Entry RecordView → Bool
is_uncertain_entry entry.Undrawn = false
is_uncertain_entry entry.Held = false
is_uncertain_entry (entry.Done r) = is_uncertain_trial r.outcome
is_uncertain_entry (entry.Lost cause) = false

-- how many trials had calls of unknown outcome
abbrev pub uncertain_count : List (Entry RecordView) → ℕ
uncertain_count entries = count_by is_uncertain_entry entries

abbrev pub is_ended : Entry RecordView → Bool
is_ended entry.Undrawn = false
is_ended entry.Held = false
is_ended (entry.Done r) = true
is_ended (entry.Lost cause) = false

-- how many trials were run to their end
abbrev pub ended_count : List (Entry RecordView) → ℕ
ended_count entries = count_by is_ended entries
