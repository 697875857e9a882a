-- Whether the runs of a campaign have a call.
use Rattle.std.specs.Prelude.{◌||◌, Bool, true, false, List}
use Rattle.std.specs.List.{list_any}
use Rattle.pst_case.specs.declared.history.History.{History}
use Rattle.pst_case.specs.declared.history.Reply.{Reply}
use Rattle.pst_case.specs.declared.history.Reply.TheVariants.{Value as Answered, Misfit, Failed, NotRun, Unknown}
use Rattle.pst_ledger.specs.declared.entry.Entry.{Entry}
use Rattle.pst_ledger.specs.declared.entry.Entry.TheVariants as entry
use Rattle.pst_shrink.specs.declared.shrinking.FailingCase.{FailingCase}
use Rattle.pst_shrink.specs.declared.shrinking.Shrunk.{Shrunk}
use Rattle.pst_trial.specs.RecordView.{RecordView}
use Rattle.pst_trial.specs.declared.record.JudgedRun.{JudgedRun}
use Rattle.pst_trial.specs.declared.record.TrialOutcome.{TrialOutcome}
use Rattle.pst_trial.specs.declared.record.TrialOutcome.TheVariants as outcome

-- the command with this reply was called
abbrev pub was_called : Reply → Bool
was_called (Answered v) = true
was_called Misfit = true
was_called Failed = true
was_called NotRun = false
was_called Unknown = true

abbrev pub any_was_called : List Reply → Bool
any_was_called replies = list_any was_called replies

-- a command of the run was called
abbrev pub has_call : JudgedRun → Bool
has_call run =
    any_was_called run.history.prefix || list_any any_was_called run.history.branches || any_was_called run.history.suffix

abbrev pub has_failing_call : FailingCase JudgedRun → Bool
has_failing_call failing = has_call failing.history

-- a run of the trial has a call
abbrev pub has_call_in_trial : TrialOutcome → Bool
has_call_in_trial (outcome.GenFaulted place) = false
has_call_in_trial (outcome.Passed case runs) = list_any has_call runs
has_call_in_trial (outcome.Failed earlier shrunk) =
    list_any has_call earlier || list_any has_failing_call shrunk.before || has_failing_call shrunk.last

abbrev pub has_call_in_entry : Entry RecordView → Bool
has_call_in_entry entry.Undrawn = false
has_call_in_entry entry.Held = false
has_call_in_entry (entry.Done r) = has_call_in_trial r.outcome
has_call_in_entry (entry.Lost cause) = false
