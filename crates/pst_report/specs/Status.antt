-- How a campaign ended.
use Rattle.std.specs.Prelude.{Bool, not, if◌then◌else◌, ◌&&◌, ◌||◌, List}
use Rattle.std.specs.List.{list_any}
use Rattle.pst_ledger.specs.declared.entry.Entry.{Entry}
use Rattle.pst_report.specs.Kinds.{kind_of, is_same}
use Rattle.pst_report.specs.declared.status.EntryKind.TheVariants as kind
use Rattle.pst_report.specs.declared.status.CampaignStatus.{CampaignStatus}
use Rattle.pst_report.specs.declared.status.CampaignStatus.TheVariants.{Passed, Failed, Incomplete}
use Rattle.pst_trial.specs.RecordView.{RecordView}

-- lost, held or undrawn
abbrev pub is_missing : Entry RecordView → Bool
is_missing e = is_same (kind_of e) kind.Lost || is_same (kind_of e) kind.Undrawn

abbrev pub is_failed : Entry RecordView → Bool
is_failed e = not (is_same (kind_of e) kind.Passed)

-- Incomplete where a number is lost, held or undrawn; else Failed where a trial did not pass; else Passed
abbrev pub campaign_status : List (Entry RecordView) → CampaignStatus
campaign_status entries =
    if list_any is_missing entries then Incomplete else if list_any is_failed entries then Failed else Passed

abbrev pub is_lost : Entry RecordView → Bool
is_lost e = is_same (kind_of e) kind.Lost

-- held or undrawn
abbrev pub is_undrawn : Entry RecordView → Bool
is_undrawn e = is_same (kind_of e) kind.Undrawn

-- drawn, and not passed
abbrev pub did_not_pass : Entry RecordView → Bool
did_not_pass e = is_failed e && not (is_undrawn e)

-- of a campaign that may end early: Incomplete where a number is lost; else Failed where a trial did not pass, though numbers
-- are undrawn; else Incomplete where a number is undrawn; else Passed
abbrev pub ended_status : List (Entry RecordView) → CampaignStatus
ended_status entries =
    if list_any is_lost entries then Incomplete
    else if list_any did_not_pass entries then Failed
    else if list_any is_missing entries then Incomplete else Passed

-- passed
abbrev pub is_passed : Entry RecordView → Bool
is_passed e = is_same (kind_of e) kind.Passed

-- of a campaign that ended when its caller wished, as after some seconds: Incomplete where a number is lost; else Failed where a
-- trial did not pass; else Passed where a trial passed, though numbers are undrawn; else Incomplete where a number is undrawn, so
-- that no trial was made; else Passed
abbrev pub made_status : List (Entry RecordView) → CampaignStatus
made_status entries =
    if list_any is_lost entries then Incomplete
    else if list_any did_not_pass entries then Failed
    else if list_any is_passed entries then Passed
    else if list_any is_missing entries then Incomplete else Passed
