-- What became of the items that `pst run` drives, before it is written.
use Rattle.std.specs.Prelude.{◌≡◌, ◌≢◌, ℕ, zero, suc, ◌+◌, Bool, true, false, if◌then◌else◌, List, [], ◌∷◌, length, Option, Some, None}
use Rattle.pst_case.specs.Matches.{matches}
use Rattle.pst_case.specs.OfModel.{OfModel}
use Rattle.pst_case.specs.Unknown.{times_of_calls}
use Rattle.pst_case.specs.declared.case.Case.{Case}
use Rattle.pst_case.specs.declared.history.History.{History}
use Rattle.pst_case.specs.declared.history.Run.{Run}
use Rattle.pst_cli.specs.Output.{status_of_one}
use Rattle.pst_cli.specs.declared.answer.Status.{Status}
use Rattle.pst_cli.specs.declared.answer.Status.TheVariants.{Accepted, Failed, Refused, Lost}
use Rattle.pst_cli.specs.declared.driven_item.DrivenItem.{DrivenItem}
use Rattle.pst_cli.specs.declared.driven_item.ItemReport.{ItemReport}
use Rattle.pst_cli.specs.declared.driven_item.ItemReport.TheVariants as became
use Rattle.pst_driver.specs.Driven.{IsDriven, IsDriveFault}
use Rattle.pst_driver.specs.declared.driving.DriveFault.{DriveFault}
use Rattle.pst_judge.specs.Judgement.{IsJudgementBy}
use Rattle.pst_judge.specs.Validity.{IsValid, IsWhy}
use Rattle.pst_judge.specs.declared.by_order.CallOrder.{CallOrder}
use Rattle.pst_judge.specs.declared.by_order.CallOrder.TheVariants.{Any, Time}
use Rattle.pst_judge.specs.declared.judgement.Judged.{Judged}
use Rattle.pst_judge.specs.declared.judgement.Judged.TheVariants as kind
use Rattle.pst_model.specs.declared.model.Source.{Source}
use Rattle.pst_system.specs.Kept.{Answers, Fails, ResetFails}

-- ---- one drive

-- a case of the model with a history
abbrev pub run_with : OfModel → History → Run
run_with v h = record { shaped = v; history = Some h }

-- in the order of times the calls have times, and in any order none are recorded
abbrev pub IsTimedBy : CallOrder → History → Type 0
IsTimedBy Any h = h.times ≡ None
IsTimedBy Time h = times_of_calls h ≡ h.times

-- the reason why a case is not valid
abbrev pub IsInvalid : Source → Case → Judged → Type 0
IsInvalid m c (kind.Verdict verdict) = ⊥
IsInvalid m c kind.Valid = ⊥
IsInvalid m c (kind.Invalid why) = IsWhy m c why

module _ (order : CallOrder) (m : Source) (answers : Answers) (fails : Fails) (reset_fails : ResetFails) where
  -- a valid case was driven on the system: its run, and the judgement on it
  pub record IsDrivenRun (c : Case) (run : Run) (judged : Judged) : Type 0 where
    pub history : History
    pub valid : IsValid m c
    pub matching : matches m c history ≡ true
    pub driven : IsDriven m answers fails c history
    pub timed : IsTimedBy order history
    pub is_run : run ≡ run_with (record { model = m; case = c }) history
    pub judgement : IsJudgementBy order m run judged

  -- A case is reported in one of three ways:
  -- it is valid and was driven on the system, and this is the run with the verdict on it;
  -- it is not valid, for this reason;
  -- it is valid and could not be driven, for this reason.
  abbrev pub IsReported : Case → ItemReport → Type 0
  IsReported c (became.Judged (Some run) judged) = IsDrivenRun c run judged
  IsReported c (became.Judged None judged) = IsInvalid m c judged
  IsReported c (became.Lost fault) = IsValid m c × IsDriveFault reset_fails c fault

-- Accepted where the run is explained; Lost where the case was not driven to the end
abbrev pub report_status : ItemReport → Status
report_status (became.Judged run judged) = status_of_one judged
report_status (became.Lost fault) = Lost

-- ---- several drives

-- whether a drive is explained
abbrev pub is_accepted : Status → Bool
is_accepted Accepted = true
is_accepted Failed = false
is_accepted Refused = false
is_accepted Lost = false

-- which report of a case is shown after one more: the first that is not accepted, or else the last
abbrev pub shown_after : Option ItemReport → ItemReport → Option ItemReport
shown_after None r = Some r
shown_after (Some shown) r = if is_accepted (report_status shown) then Some r else Some shown

-- which is shown after several
abbrev pub shown_of : Option ItemReport → List ItemReport → Option ItemReport
shown_of shown [] = shown
shown_of shown (r ∷ rs) = shown_of (shown_after shown r) rs

-- so many and those of the reports that are not accepted
abbrev pub failed_of : ℕ → List ItemReport → ℕ
failed_of count [] = count
failed_of count (r ∷ rs) = failed_of (if is_accepted (report_status r) then count else count + 1) rs

-- a report without a count of drives
abbrev pub alone : ItemReport → DrivenItem
alone r = record { report = r; drives = None }

-- a report, and how many drives were made and failed
abbrev pub counted : ItemReport → (drives failed : ℕ) → DrivenItem
counted r drives failed = record { report = r; drives = Some (record { all = drives; failed = failed }) }

module _ (order : CallOrder) (m : Source) (answers : Answers) (fails : Fails) (reset_fails : ResetFails) where
  -- each of the drives of a case is reported, and none is lost
  abbrev pub AreDriven : Case → List ItemReport → Type 0
  AreDriven c [] = Unit {0}
  AreDriven c (r ∷ rs) = IsReported order m answers fails reset_fails c r × (report_status r ≢ Lost) × AreDriven c rs

  -- A valid case was driven as often as it was to be: the report of the first drive that failed, or else of the last one, and how
  -- many failed. Or the case is not valid, for this reason. Or a drive was lost, for this reason.
  pub data IsRepeated (repeats : ℕ) (c : Case) (item : DrivenItem) : Type 0 where
    repeated : IsValid m c → (reports : List ItemReport) → length reports ≡ repeats → AreDriven c reports
        → (shown : ItemReport) → shown_of None reports ≡ Some shown → item ≡ counted shown repeats (failed_of 0 reports)
        → IsRepeated repeats c item
    invalid : (judged : Judged) → IsInvalid m c judged → item ≡ alone (became.Judged None judged)
        → IsRepeated repeats c item
    lost : IsValid m c → (fault : DriveFault) → IsDriveFault reset_fails c fault → item ≡ alone (became.Lost fault)
        → IsRepeated repeats c item

  -- the case was driven once: its report alone
  abbrev pub IsDrivenOnce : Case → DrivenItem → Type 0
  IsDrivenOnce c item = IsReported order m answers fails reset_fails c item.report × (item.drives ≡ None)

  -- the case was driven once, or as often as is said
  abbrev pub IsDrivenCase : Option ℕ → Case → DrivenItem → Type 0
  IsDrivenCase None c item = IsDrivenOnce c item
  IsDrivenCase (Some zero) c item = IsDrivenOnce c item
  IsDrivenCase (Some (suc n)) c item = IsRepeated (suc n) c item

  -- the case of an item, whatever its history
  abbrev pub IsDrivenItem : Option ℕ → Run → DrivenItem → Type 0
  IsDrivenItem repeats run item = IsDrivenCase repeats run.shaped.case item
