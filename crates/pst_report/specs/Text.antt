-- The text of a report: of a plan, and of what came of each number from 0 on, in order.
use Rattle.std.specs.Prelude.{ℕ, ◌+◌, ◌==◌, if◌then◌else◌, List, [], ◌∷◌, ◌++◌, length, codes, decimal, Option, Some, None}
use Rattle.pst_case.specs.declared.history.Run.{Run}
use Rattle.pst_eval.specs.Places.{callback_name}
use Rattle.pst_eval.specs.declared.callbacks.FaultPlace.{FaultPlace}
use Rattle.pst_judge.specs.VerdictText.{verdict_text}
use Rattle.pst_ledger.specs.Names.{cause_name}
use Rattle.pst_ledger.specs.declared.entry.Cause.{Cause}
use Rattle.pst_ledger.specs.declared.entry.Entry.{Entry}
use Rattle.pst_ledger.specs.declared.entry.Entry.TheVariants as entry
use Rattle.pst_judge.specs.declared.by_order.CallOrder.{CallOrder}
use Rattle.pst_judge.specs.declared.by_order.CallOrder.TheVariants.{Any, Time}
use Rattle.pst_model.specs.declared.model.Source.{Source}
use Rattle.pst_report.specs.Kinds.{count_of, own_failure}
use Rattle.pst_report.specs.Least.{least_fault, least_failure}
use Rattle.pst_report.specs.declared.status.EntryKind.{EntryKind}
use Rattle.pst_report.specs.declared.status.EntryKind.TheVariants as kind
use Rattle.pst_runs.specs.Lines.{line_of}
use Rattle.pst_runs.specs.Written.{run_form}
use Rattle.pst_shrink.specs.declared.shrinking.ShrinkEnd.{ShrinkEnd}
use Rattle.pst_shrink.specs.declared.shrinking.ShrinkEnd.TheVariants.{Minimal, Stopped}
use Rattle.pst_shrink.specs.declared.shrinking.Shrunk.{Shrunk}
use Rattle.pst_shrink.specs.declared.shrinking.FailingCase.{FailingCase}
use Rattle.pst_trial.specs.PlanView.{PlanView}
use Rattle.pst_trial.specs.RecordView.{RecordView}
use Rattle.pst_trial.specs.declared.record.JudgedRun.{JudgedRun}
use Rattle.pst_trial.specs.declared.plan.Settings.{Settings}
use Rattle.pst_value.specs.FaultName.{fault_name}

-- the end of a line
abbrev pub line_end : List ℕ
line_end = 10 ∷ []

-- ---- the plan

-- `campaign NAME`
abbrev pub name_line : Source → List ℕ
name_line m = codes "campaign " ++ m.name ++ line_end

-- `seed S trials N commands C repeats R limit X`
abbrev pub numbers_part : Settings → List ℕ
numbers_part s =
    codes "seed " ++ (decimal s.seed ++ (codes " trials " ++ (decimal s.trials ++ (codes " commands "
    ++ (decimal s.commands ++ (codes " repeats " ++ (decimal s.repeats ++ (codes " limit "
    ++ decimal s.limit))))))))

-- ` branches B` where B is not 2
abbrev pub branches_part : ℕ → List ℕ
branches_part b = if b == 2 then [] else codes " branches " ++ decimal b

-- ` suffix N` where N is not 0
abbrev pub suffix_part : ℕ → List ℕ
suffix_part n = if n == 0 then [] else codes " suffix " ++ decimal n

-- ` order time` where runs are judged in the order of their times
abbrev pub order_part : CallOrder → List ℕ
order_part Any = []
order_part Time = codes " order time"

abbrev pub settings_line : Settings → List ℕ
settings_line s =
    numbers_part s ++ branches_part s.branches ++ suffix_part s.suffix ++ order_part s.order ++ line_end

abbrev pub plan_lines : PlanView → List ℕ
plan_lines p = name_line p.model ++ settings_line p.settings

-- ---- the counts

-- a word, and how many numbers ended in the way of a kind
abbrev pub count_line : List ℕ → EntryKind → List (Entry RecordView) → List ℕ
count_line word kind entries = word ++ (codes " " ++ (decimal (count_of kind entries) ++ line_end))

abbrev pub judged_lines : List (Entry RecordView) → List ℕ
judged_lines entries =
    count_line (codes "passed") kind.Passed entries
    ++ count_line (codes "unexplained") kind.Unexplained entries
    ++ count_line (codes "faulted") kind.Faulted entries
    ++ count_line (codes "broken") kind.Broken entries

-- `genfault-first NUMBER COMMAND CALLBACK KIND`, where there is such a number
abbrev pub first_fault_line : Option (ℕ × FaultPlace) → List ℕ
first_fault_line None = []
first_fault_line (Some (number, place)) =
    codes "genfault-first " ++ (decimal number ++ (codes " " ++ (decimal place.command ++ (codes " "
    ++ (callback_name place.callback ++ (codes " " ++ (fault_name place.fault ++ line_end)))))))

-- ` NUMBER:CAUSE`
abbrev pub loss : ℕ → Cause → List ℕ
loss number cause = codes " " ++ (decimal number ++ (codes ":" ++ cause_name cause))

abbrev pub loss_of : ℕ → Entry RecordView → List ℕ
loss_of number entry.Undrawn = []
loss_of number entry.Held = []
loss_of number (entry.Done r) = []
loss_of number (entry.Lost cause) = loss number cause

-- each lost number with its cause, where the first entry has the number
abbrev pub losses : ℕ → List (Entry RecordView) → List ℕ
losses number [] = []
losses number (e ∷ es) = loss_of number e ++ losses (number + 1) es

-- `lost F`, and each lost number
abbrev pub lost_line : List (Entry RecordView) → List ℕ
lost_line entries = codes "lost " ++ (decimal (count_of kind.Lost entries) ++ (losses 0 entries ++ line_end))

abbrev pub missing_lines : List (Entry RecordView) → List ℕ
missing_lines entries =
    count_line (codes "genfault") kind.GenFaulted entries
    ++ first_fault_line (least_fault 0 entries)
    ++ lost_line entries
    ++ count_line (codes "undrawn") kind.Undrawn entries

abbrev pub count_lines : List (Entry RecordView) → List ℕ
count_lines entries = judged_lines entries ++ missing_lines entries

-- ---- the least failure

abbrev pub ending_name : ShrinkEnd → List ℕ
ending_name Minimal = codes "minimal"
ending_name Stopped = codes "stopped"

-- the case with the history that it broke with
abbrev pub run_of : Source → FailingCase JudgedRun → Run
run_of m t = record { shaped = record { model = m; case = t.case }; history = Some t.history.history }

-- the run as a tree on one line
abbrev pub run_line : Source → FailingCase JudgedRun → List ℕ
run_line m t = line_of (run_form m (run_of m t))

-- `least NUMBER VERDICT`
abbrev pub least_line : ℕ → FailingCase JudgedRun → List ℕ
least_line number t =
    codes "least " ++ (decimal number ++ (codes " " ++ (verdict_text t.history.verdict ++ line_end)))

-- `steps N minimal` or `steps N stopped`: so many cases were taken
abbrev pub steps_line : Shrunk JudgedRun → List ℕ
steps_line s =
    codes "steps " ++ (decimal (length s.before) ++ (codes " " ++ (ending_name s.ending ++ line_end)))

-- the verdict on the last run
abbrev pub last_line : FailingCase JudgedRun → List ℕ
last_line t = verdict_text t.history.verdict ++ line_end

-- `least NUMBER VERDICT` and `from RUN`: the trial's own failing run
abbrev pub own_lines : Source → ℕ → FailingCase JudgedRun → List ℕ
own_lines m number t = least_line number t ++ codes "from " ++ run_line m t

-- `to RUN` and its verdict: the last run
abbrev pub last_lines : Source → FailingCase JudgedRun → List ℕ
last_lines m t = codes "to " ++ run_line m t ++ last_line t

-- the five lines of a number whose trial failed
abbrev pub failure_lines : Source → ℕ → Shrunk JudgedRun → List ℕ
failure_lines m number s = own_lines m number (own_failure s) ++ steps_line s ++ last_lines m s.last

abbrev pub least_lines : Source → Option (ℕ × Shrunk JudgedRun) → List ℕ
least_lines m None = codes "least none" ++ line_end
least_lines m (Some (number, shrunk)) = failure_lines m number shrunk

-- ---- the report

-- the plan, the counts, and the least number whose trial failed
unfoldable pub report_text : PlanView → List (Entry RecordView) → List ℕ
report_text p entries =
    plan_lines p ++ count_lines entries ++ least_lines p.model (least_failure 0 entries)
