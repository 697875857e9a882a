-- Cases that were driven, and the runs of their reports.
use Rattle.std.proofs.Common.{◌≡◌, ℕ, zero, suc, Bool, true, false, List, [], ◌∷◌, All, Option, Some, None, Result, Ok, Err, IfOk, IfSome, refl, sym, ap, ◌∙◌, subst}
use Rattle.std.specs.Prelude.{if◌then◌else◌}
use Rattle.std.specs.List.{AllZip}
use Rattle.std.proofs.lemmas.List.Elements.{All-nil, All-cons}
use Rattle.pst_case.specs.declared.case.Case.{Case}
use Rattle.pst_case.specs.declared.history.Run.{Run}
use Rattle.pst_case.specs.Matches.{matches}
use Rattle.pst_case.specs.OfModel.{OfModel}
use Rattle.pst_case.specs.Unknown.{times_for, times_of_calls}
use Rattle.pst_case.specs.declared.history.History.{History}
use Rattle.pst_cli.specs.DrivenItems.{AreDriven, IsDrivenCase, IsDrivenItem, IsRepeated, IsReported, IsTimedBy, repeated, invalid, lost, is_accepted, report_status, run_with, shown_after, shown_of}
use Rattle.pst_cli.specs.ItemReports.{IsPrintable, IsReportOf}
use Rattle.pst_cli.specs.declared.driven_item.DrivenItem.{DrivenItem}
use Rattle.pst_cli.specs.declared.driven_item.ItemReport.{ItemReport}
use Rattle.pst_cli.specs.declared.driven_item.ItemReport.TheVariants as became
use Rattle.pst_driver.specs.Driven.{IsDriven}
use Rattle.pst_judge.specs.Judgement.{IsJudgementBy}
use Rattle.pst_judge.specs.Validity.{IsValid}
use Rattle.pst_judge.specs.declared.by_order.CallOrder.{CallOrder}
use Rattle.pst_judge.specs.declared.by_order.CallOrder.TheVariants.{Any, Time}
use Rattle.pst_model.specs.declared.model.Source.{Source}
use Rattle.pst_runs.specs.Lawful.{IsLawful}
use Rattle.pst_system.specs.Kept.{Answers, Fails, ResetFails}

pub if_ok_then : {A E : Type 0} (P Q : A → Type 0) → ((a : A) → P a → Q a) → (r : Result A E) → IfOk r P → IfOk r Q
if_ok_then P Q f (Ok a) h = f a h
if_ok_then P Q f (Err e) h = tt

-- the times of a history are lawful if it is timed by an order
timed_history : (order : CallOrder) (h : History) → IsTimedBy order h → times_of_calls h ≡ h.times
timed_history Any h timed = ap (times_for h.branches) timed ∙ sym timed
timed_history Time h timed = timed

module _ (order : CallOrder) (m : Source) (A : Answers) (F : Fails) (R : ResetFails) where
  -- a valid case that was driven is reported by its run and the judgement on it
  pub driven_case : {E : Type 0} (v : OfModel) (h : History) → v.model ≡ m → IsValid v.model v.case → matches m v.case h ≡ true
      → IsDriven m A F v.case h → IsTimedBy order h → (r : Result ItemReport E) → IfOk r (IsReportOf order m (run_with v h))
      → IfOk r (IsReported order m A F R v.case)
  driven_case v h e valid same real timed (Err x) is = tt
  driven_case v h e valid same real timed (Ok (became.Lost fault)) is = absurd is
  driven_case v h e valid same real timed (Ok (became.Judged None judged)) is = absurd is
  driven_case v h e valid same real timed (Ok (became.Judged (Some run) judged)) is =
      let named : v ≡ record { model = m; case = v.case } = ap (λ n. let w : OfModel = record { model = n; case = v.case } in w) e in
      let Valid : Source → Type 0 = λ n. IsValid n v.case in
      record {
        history = h;
        valid = subst Valid e valid;
        matching = same;
        driven = real;
        timed = timed;
        is_run = is.0 ∙ ap (λ w. run_with w h) named;
        judgement = is.1;
      }

  -- the run of a report may be written
  pub printable : (c : Case) (r : ItemReport) → IsReported order m A F R c r → IsPrintable m r
  printable c (became.Lost fault) is = tt
  printable c (became.Judged None judged) is = tt
  printable c (became.Judged (Some run) judged) is =
      let lawful : IsLawful m (run_with (record { model = m; case = c }) is.history) = record { model = refl; matching = is.matching; timed = timed_history order is.history is.timed } in
      subst (IsLawful m) (sym is.is_run) lawful

  shown_by : (accepted : Bool) (shown r : ItemReport) → IsPrintable m shown → IsPrintable m r
      → IfSome (if accepted then Some r else Some shown) (IsPrintable m)
  shown_by true shown r p q = q
  shown_by false shown r p q = p

  next_printable : (shown : Option ItemReport) (r : ItemReport) → IfSome shown (IsPrintable m) → IsPrintable m r
      → IfSome (shown_after shown r) (IsPrintable m)
  next_printable None r p q = q
  next_printable (Some shown) r p q = shown_by (is_accepted (report_status shown)) shown r p q

  shown_printable : (c : Case) (shown : Option ItemReport) (rs : List ItemReport) → IfSome shown (IsPrintable m)
      → AreDriven order m A F R c rs → IfSome (shown_of shown rs) (IsPrintable m)
  shown_printable c shown [] p h = p
  shown_printable c shown (r ∷ rs) p h =
      shown_printable c (shown_after shown r) rs (next_printable shown r p (printable c r h.0)) h.2

  repeated_printable : (repeats : ℕ) (c : Case) (item : DrivenItem) → IsRepeated order m A F R repeats c item → IsPrintable m item.report
  repeated_printable repeats c item (repeated is reports count driven shown shows same) =
      let IsSo : Option ItemReport → Type 0 = λ o. IfSome o (IsPrintable m) in
      let Of : DrivenItem → Type 0 = λ i. IsPrintable m i.report in
      subst Of (sym same) (subst IsSo shows (shown_printable c None reports tt driven))
  repeated_printable repeats c item (invalid judged why same) =
      let Of : DrivenItem → Type 0 = λ i. IsPrintable m i.report in subst Of (sym same) tt
  repeated_printable repeats c item (lost is fault why same) =
      let Of : DrivenItem → Type 0 = λ i. IsPrintable m i.report in subst Of (sym same) tt

  item_printable : (repeats : Option ℕ) (c : Case) (item : DrivenItem) → IsDrivenCase order m A F R repeats c item → IsPrintable m item.report
  item_printable None c item is = printable c item.report is.0
  item_printable (Some zero) c item is = printable c item.report is.0
  item_printable (Some (suc n)) c item is = repeated_printable (suc n) c item is

  -- the runs of all items may be written
  pub all_printable : (repeats : Option ℕ) (runs : List Run) (items : List DrivenItem) → AllZip (IsDrivenItem order m A F R repeats) runs items
      → All (λ (item : DrivenItem). IsPrintable m item.report) items
  all_printable repeats [] [] h = All-nil (λ (item : DrivenItem). IsPrintable m item.report)
  all_printable repeats [] (item ∷ items) h = absurd h
  all_printable repeats (run ∷ runs) [] h = absurd h
  all_printable repeats (run ∷ runs) (item ∷ items) h =
      All-cons (λ (i : DrivenItem). IsPrintable m i.report) item items (item_printable repeats run.shaped.case item h.0) (all_printable repeats runs items h.1)
