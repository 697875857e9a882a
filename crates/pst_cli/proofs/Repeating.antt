-- Drives of a case, one after another.
use Rattle.std.proofs.Common.{◌≡◌, ◌≢◌, ◌≤◌, ◌∙◌, ℕ, zero, suc, ◌+◌, Bool, true, false, List, [], ◌∷◌, ◌++◌, ◌⊎◌, inl, inr, Option, Some, None, Result, Ok, Err, IfOk, OnOk, length, length-append, refl, sym, ap, subst, arith}
use Rattle.std.specs.Prelude.{if◌then◌else◌}
use Rattle.pst_case.specs.declared.case.Case.{Case}
use Rattle.pst_cli.specs.DrivenItems.{AreDriven, IsDrivenCase, IsDrivenOnce, IsRepeated, IsReported, repeated, invalid, lost, alone, counted, failed_of, is_accepted, report_status, shown_after, shown_of}
use Rattle.pst_cli.specs.Output.{is_good}
use Rattle.pst_cli.specs.declared.answer.Status.{Status}
use Rattle.pst_cli.specs.declared.answer.Status.TheVariants.{Accepted, Failed, Lost}
use Rattle.pst_cli.specs.declared.driven_item.DrivenItem.{DrivenItem}
use Rattle.pst_cli.specs.declared.driven_item.ItemReport.{ItemReport}
use Rattle.pst_cli.specs.declared.driven_item.ItemReport.TheVariants as became
use Rattle.pst_judge.specs.Validity.{IsValid, IsWhy}
use Rattle.pst_judge.specs.declared.by_order.CallOrder.{CallOrder}
use Rattle.pst_judge.specs.declared.judgement.Judged.TheVariants as kind
use Rattle.pst_judge.specs.declared.validated.Why.{Why}
use Rattle.pst_judge.specs.declared.validated.Why.TheVariants.{NoMemory}
use Rattle.pst_model.specs.declared.model.Source.{Source}
use Rattle.pst_system.specs.Kept.{Answers, Fails, ResetFails}

shown_more : (shown : Option ItemReport) (rs : List ItemReport) (r : ItemReport) → shown_of shown (rs ++ r ∷ []) ≡ shown_after (shown_of shown rs) r
shown_more shown [] r = refl
shown_more shown (x ∷ rs) r = shown_more (shown_after shown x) rs r

failed_more : (count : ℕ) (rs : List ItemReport) (r : ItemReport)
    → failed_of count (rs ++ r ∷ []) ≡ (if is_accepted (report_status r) then failed_of count rs else failed_of count rs + 1)
failed_more count [] r = refl
failed_more count (x ∷ rs) r = failed_more (if is_accepted (report_status x) then count else count + 1) rs r

some_stays_by : (accepted : Bool) (r x : ItemReport) (rs : List ItemReport) → (shown_of (Some x) rs ≡ None → ⊥)
    → (shown_of (Some r) rs ≡ None → ⊥) → shown_of (if accepted then Some x else Some r) rs ≡ None → ⊥
some_stays_by true r x rs later here e = later e
some_stays_by false r x rs later here e = here e

-- once a report is shown, one is
some_stays : (r : ItemReport) (rs : List ItemReport) → shown_of (Some r) rs ≡ None → ⊥
some_stays r [] e = absurd (cc)
some_stays r (x ∷ rs) e = some_stays_by (is_accepted (report_status r)) r x rs (some_stays x rs) (some_stays r rs) e

some_shown : (rs : List ItemReport) → 1 ≤ length rs → shown_of None rs ≡ None → ⊥
some_shown [] h e = absurd (omega arith)
some_shown (r ∷ rs) h e = some_stays r rs e

one_more_failed : (accepted : Bool) (failed drives : ℕ) → failed ≤ drives → (if accepted then failed else failed + 1) ≤ drives + 1
one_more_failed true failed drives h = omega (arith, h)
one_more_failed false failed drives h = omega (arith, h)

not_lost : (good : Bool) → (if good then Accepted else Failed) ≡ Lost → ⊥
not_lost true e = absurd (cc)
not_lost false e = absurd (cc)

module _ (order : CallOrder) (m : Source) (answers : Answers) (fails : Fails) (reset_fails : ResetFails) where
  driven_more : (c : Case) (rs : List ItemReport) (r : ItemReport) → AreDriven order m answers fails reset_fails c rs
      → IsReported order m answers fails reset_fails c r → report_status r ≢ Lost
      → AreDriven order m answers fails reset_fails c (rs ++ r ∷ [])
  driven_more c [] r h is kept = (is, kept, tt)
  driven_more c (x ∷ rs) r h is kept = (h.0, h.1, driven_more c rs r h.2 is kept)

  -- so many drives were made, of which so many failed, and this report is shown of them
  pub record HasDriven (c : Case) (drives : ℕ) (shown : Option ItemReport) (failed : ℕ) : Type 0 where
    pub reports : List ItemReport
    pub count : length reports ≡ drives
    pub driven : AreDriven order m answers fails reset_fails c reports
    pub shows : shown ≡ shown_of None reports
    pub fails_so : failed ≡ failed_of 0 reports
    pub within : failed ≤ drives

  pub not_driven : (c : Case) → HasDriven c 0 None 0
  not_driven c =
      let none : 0 ≤ 0 = omega arith in
      record { reports = []; count = refl; driven = tt; shows = refl; fails_so = refl; within = none }

  pub one_more : (c : Case) (drives : ℕ) (shown : Option ItemReport) (failed : ℕ) (r : ItemReport)
      → HasDriven c drives shown failed → IsReported order m answers fails reset_fails c r → report_status r ≢ Lost
      → HasDriven c (drives + 1) (shown_after shown r) (if is_accepted (report_status r) then failed else failed + 1)
  one_more c drives shown failed r h is kept = record {
    reports = h.reports ++ r ∷ [];
    count = length-append h.reports (r ∷ []) ∙ ap (λ n. n + 1) h.count;
    driven = driven_more c h.reports r h.driven is kept;
    shows = ap (λ s. shown_after s r) h.shows ∙ sym (shown_more None h.reports r);
    fails_so = ap (λ n. if is_accepted (report_status r) then n else n + 1) h.fails_so ∙ sym (failed_more 0 h.reports r);
    within = one_more_failed (is_accepted (report_status r)) failed drives h.within;
  }

  pub all_driven : (c : Case) (repeats : ℕ) (shown : ItemReport) (failed : ℕ) → IsValid m c
      → HasDriven c repeats (Some shown) failed → IsRepeated order m answers fails reset_fails repeats c (counted shown repeats failed)
  all_driven c repeats shown failed is h =
      repeated is h.reports h.count h.driven shown (sym h.shows) (ap (counted shown repeats) h.fails_so)

  pub some_driven : (c : Case) (repeats failed : ℕ) → 1 ≤ repeats → HasDriven c repeats None failed → ⊥
  some_driven c repeats failed some h =
      let enough : 1 ≤ length h.reports = omega (arith, some, h.count) in
      some_shown h.reports enough (sym h.shows)

  -- a drive that was lost is the report of its case
  pub lost_drive : (repeats : ℕ) (c : Case) (r : ItemReport) → IsReported order m answers fails reset_fails c r → report_status r ≡ Lost
      → IsRepeated order m answers fails reset_fails repeats c (alone r)
  lost_drive repeats c (became.Judged run judged) is e = absurd (not_lost (is_good judged) e)
  lost_drive repeats c (became.Lost fault) is e = lost is.0 fault is.1 refl

  -- what is driven once
  pub once : {E : Type 0} (c : Case) (r : Result DrivenItem E) (n : ℕ) → n ≡ 0 → IfOk r (IsDrivenOnce order m answers fails reset_fails c)
      → IfOk r (IsDrivenCase order m answers fails reset_fails (Some n) c)
  once {E} c r n is h =
      let At : ℕ → Type 0 = λ k. IfOk r (IsDrivenCase order m answers fails reset_fails (Some k) c) in
      subst At (sym is) h

  -- what is driven a positive number of times
  pub often : {E : Type 0} (c : Case) (r : Result DrivenItem E) (n : ℕ) → 1 ≤ n → IfOk r (IsRepeated order m answers fails reset_fails n c)
      → IfOk r (IsDrivenCase order m answers fails reset_fails (Some n) c)
  often c r zero le h = absurd (omega (arith, le))
  often c r (suc n) le h = h

-- what became of an item whose case is not valid, however often it was to be driven
pub invalid_case : {E : Type 0} (order : CallOrder) (m : Source) (A : Answers) (F : Fails) (R : ResetFails) (repeats : Option ℕ) (c : Case) (why : Why)
    → ((why ≡ NoMemory) ⊎ IsWhy m c why) → (r : Result DrivenItem E) → OnOk r (why ≡ NoMemory → ⊥)
    → IfOk r (λ item. item ≡ alone (became.Judged None (kind.Invalid why))) → IfOk r (IsDrivenCase order m A F R repeats c)
invalid_case order m A F R repeats c why is (Err e) reason same = tt
invalid_case order m A F R repeats c why (inl e) (Ok item) reason same = absurd (reason e)
invalid_case order m A F R None c why (inr is) (Ok item) reason same =
    let Of : DrivenItem → Type 0 = λ i. IsDrivenOnce order m A F R c i in subst Of (sym same) (is, refl)
invalid_case order m A F R (Some zero) c why (inr is) (Ok item) reason same =
    let Of : DrivenItem → Type 0 = λ i. IsDrivenOnce order m A F R c i in subst Of (sym same) (is, refl)
invalid_case order m A F R (Some (suc n)) c why (inr is) (Ok item) reason same = invalid (kind.Invalid why) is same
