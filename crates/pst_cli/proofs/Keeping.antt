-- The relations of a system stay through several drives.
use Rattle.std.proofs.Common.{ℕ, zero, suc, List, [], ◌∷◌, Option, Some, None}
use Rattle.pst_case.specs.declared.case.Case.{Case}
use Rattle.pst_cli.specs.DrivenItems.{AreDriven, IsDrivenCase, IsRepeated, IsReported, repeated, invalid, lost}
use Rattle.pst_cli.specs.declared.driven_item.DrivenItem.{DrivenItem}
use Rattle.pst_cli.specs.declared.driven_item.ItemReport.{ItemReport}
use Rattle.pst_cli.specs.declared.driven_item.ItemReport.TheVariants as became
use Rattle.pst_driver.proofs.Widening.{driven_wider, drive_fault_wider}
use Rattle.pst_judge.specs.declared.by_order.CallOrder.{CallOrder}
use Rattle.pst_model.specs.declared.model.Source.{Source}
use Rattle.pst_system.specs.Kept.{Answers, Fails, ResetFails, AreKept}

pub kept_same : (A : Answers) (F : Fails) (R : ResetFails) → AreKept A A F F R R
kept_same A F R = record {
  answering = λ c v. ((λ h. h), (λ h. h));
  failing = λ c f. ((λ h. h), (λ h. h));
  resetting = λ f. ((λ h. h), (λ h. h));
}

pub kept_on : {A B C : Answers} {F G H : Fails} {R S T : ResetFails} → AreKept A B F G R S → AreKept B C G H S T → AreKept A C F H R T
kept_on k l = record {
  answering = λ c v. ((λ h. (l.answering c v).0 ((k.answering c v).0 h)), (λ h. (k.answering c v).1 ((l.answering c v).1 h)));
  failing = λ c f. ((λ h. (l.failing c f).0 ((k.failing c f).0 h)), (λ h. (k.failing c f).1 ((l.failing c f).1 h)));
  resetting = λ f. ((λ h. (l.resetting f).0 ((k.resetting f).0 h)), (λ h. (k.resetting f).1 ((l.resetting f).1 h)));
}

-- what is so by the relations as they are is so by the relations as they were
module _ {A B : Answers} {F G : Fails} {R S : ResetFails} (order : CallOrder) (m : Source) (k : AreKept A B F G R S) where
  pub report_before : (c : Case) (r : ItemReport) → IsReported order m A F R c r → IsReported order m B G S c r
  report_before c (became.Judged (Some run) judged) is = record {
    history = is.history;
    valid = is.valid;
    matching = is.matching;
    driven = driven_wider m _ _ _ _ (record { answers = λ c v. (k.answering c v).0; fails = λ c f. (k.failing c f).0 }) c is.history is.driven;
    timed = is.timed;
    is_run = is.is_run;
    judgement = is.judgement;
  }
  report_before c (became.Judged None judged) is = is
  report_before c (became.Lost fault) is = (is.0, drive_fault_wider _ _ (λ f. (k.resetting f).0) c fault is.1)

  drives_before : (c : Case) (rs : List ItemReport) → AreDriven order m A F R c rs → AreDriven order m B G S c rs
  drives_before c [] h = tt
  drives_before c (r ∷ rs) h = (report_before c r h.0, h.1, drives_before c rs h.2)

  repeated_before : (repeats : ℕ) (c : Case) (item : DrivenItem) → IsRepeated order m A F R repeats c item → IsRepeated order m B G S repeats c item
  repeated_before repeats c item (repeated is reports count driven shown shows same) =
      repeated is reports count (drives_before c reports driven) shown shows same
  repeated_before repeats c item (invalid judged why same) = invalid judged why same
  repeated_before repeats c item (lost is fault why same) =
      lost is fault (drive_fault_wider _ _ (λ f. (k.resetting f).0) c fault why) same

  pub item_before : (repeats : Option ℕ) (c : Case) (item : DrivenItem) → IsDrivenCase order m A F R repeats c item
      → IsDrivenCase order m B G S repeats c item
  item_before None c item is = (report_before c item.report is.0, is.1)
  item_before (Some zero) c item is = (report_before c item.report is.0, is.1)
  item_before (Some (suc n)) c item is = repeated_before (suc n) c item is
