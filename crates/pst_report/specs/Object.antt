-- The first members of the object of a campaign: how it ended, its plan, and its counts.
use Rattle.std.specs.Prelude.{ℕ, ◌==◌, if◌then◌else◌, List, [], ◌∷◌, ◌++◌, codes}
use Rattle.pst_judge.specs.declared.by_order.CallOrder.{CallOrder}
use Rattle.pst_judge.specs.declared.by_order.CallOrder.TheVariants.{Any, Time}
use Rattle.pst_rejudge.specs.declared.field.Field.{Field}
use Rattle.pst_rejudge.specs.declared.field.Field.TheVariants.{Number, Words}
use Rattle.pst_rejudge.specs.declared.field.FieldName.{FieldName}
use Rattle.pst_rejudge.specs.declared.field.FieldName.TheVariants as name
use Rattle.pst_ledger.specs.declared.entry.Entry.{Entry}
use Rattle.pst_report.specs.Kinds.{count_of}
use Rattle.pst_report.specs.UnknownOutcomes.{uncertain_count}
use Rattle.pst_report.specs.declared.status.EntryKind.{EntryKind}
use Rattle.pst_report.specs.declared.status.EntryKind.TheVariants as kind
use Rattle.pst_report.specs.declared.status.CampaignStatus.{CampaignStatus}
use Rattle.pst_report.specs.declared.status.CampaignStatus.TheVariants.{Passed, Failed, Incomplete}
use Rattle.pst_trial.specs.PlanView.{PlanView}
use Rattle.pst_trial.specs.RecordView.{RecordView}
use Rattle.pst_trial.specs.declared.plan.Settings.{Settings}

-- how the campaign ended
abbrev pub status_word : CampaignStatus → List ℕ
status_word Passed = codes "passed"
status_word Failed = codes "failed"
status_word Incomplete = codes "incomplete"

-- how many trials there are, and of which cases
abbrev pub case_fields : Settings → List Field
case_fields s =
    Number name.Seed s.seed ∷ Number name.Trials s.trials ∷ Number name.Commands s.commands
    ∷ Number name.Branches s.branches ∷ []

-- the order of the calls, where it is that of their times
abbrev pub order_fields : CallOrder → List Field
order_fields Any = []
order_fields Time = Words name.Order (codes "time") ∷ []

-- how cases are driven, and which interleavings may explain a run
abbrev pub drive_fields : Settings → List Field
drive_fields s =
    Number name.Suffix s.suffix ∷ Number name.Repeats s.repeats ∷ Number name.Limit s.limit ∷ order_fields s.order

-- how many numbers ended in the way of a kind
abbrev pub count_field : FieldName → EntryKind → List (Entry RecordView) → Field
count_field n k entries = Number n (count_of k entries)

abbrev pub judged_fields : List (Entry RecordView) → List Field
judged_fields entries =
    count_field name.Passed kind.Passed entries ∷ count_field name.Unexplained kind.Unexplained entries
    ∷ count_field name.Faulted kind.Faulted entries ∷ count_field name.Broken kind.Broken entries ∷ []

abbrev pub missing_fields : List (Entry RecordView) → List Field
missing_fields entries =
    count_field name.GenFault kind.GenFaulted entries ∷ count_field name.Lost kind.Lost entries
    ∷ count_field name.Undrawn kind.Undrawn entries ∷ []

-- how many trials had calls of unknown outcome, if any had
abbrev pub unknown_fields : List (Entry RecordView) → List Field
unknown_fields entries =
    if uncertain_count entries == 0 then [] else Number name.UnknownOutcomes (uncertain_count entries) ∷ []

abbrev pub other_fields : List (Entry RecordView) → List Field
other_fields entries = missing_fields entries ++ unknown_fields entries

-- how it ended, the name of its model, its plan, and its counts
abbrev pub report_fields : PlanView → CampaignStatus → List (Entry RecordView) → List Field
report_fields p status entries =
    (Words name.Verdict (status_word status) ∷ Words name.Model p.model.name ∷ [])
    ++ (case_fields p.settings ++ (drive_fields p.settings ++ (judged_fields entries ++ other_fields entries)))
