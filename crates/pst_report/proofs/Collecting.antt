-- The failures of records, each case once.
use Rattle.std.proofs.Common.{◌≡◌, ℕ, ◌+◌, ◌<◌, ◌≤◌, List, [], ◌∷◌, ◌++◌, Some, None, length, get_or, arith, length-append, sym, ◌∙◌, ap, subst}
use Rattle.std.proofs.Math.ListN.{get_or-append}
use Rattle.std.proofs.lemmas.List.Elements.{All-append}
use Rattle.std.proofs.lemmas.List.Quantifiers.{Any-push, all_pairs_push}
use Rattle.std.specs.Prelude.{slice_get}
use Rattle.std.specs.List.{All, Any, AllPairs}
use mathlib.Core.Logic.{dite}
use native.Mathlib.Decide.{dec_le}
use Rattle.pst_ledger.specs.declared.entry.Entry.{Entry}
use Rattle.pst_ledger.specs.declared.entry.Entry.TheVariants.{Done}
use Rattle.pst_report.specs.Distinct.{HasCase, IsShrunk, IsFailureAt, IsRecorded, AllHaveCase, HaveOtherCases, AreDistinctBelow, Keeps, passed, known, new}
use Rattle.pst_report.specs.Failures.{case_line}
use Rattle.pst_report.specs.Least.{failure_in}
use Rattle.pst_report.specs.declared.failures.NumberedFailure.{NumberedFailure}
use Rattle.pst_shrink.specs.declared.shrinking.Shrunk.{Shrunk}
use Rattle.pst_trial.specs.RecordView.{RecordView}
use Rattle.pst_trial.specs.declared.record.JudgedRun.{JudgedRun}

any_kept : {X : Type 0} (P : X → Type 0) (xs ys : List X) → Any P xs → Any P (xs ++ ys)
any_kept P xs ys (k, x, lt, at, p) = (
  k,
  x,
  (let l = length-append xs ys in omega (arith, lt, l)),
  get_or-append xs ys x k lt ∙ at,
  p,
)

all_one : {X : Type 0} (P : X → Type 0) (x : X) → P x → All P (x ∷ [])
all_one P x p k d lt = let first : k ≡ 0 = omega (arith, lt) in subst (λ (n : ℕ). P (get_or (x ∷ []) n d)) (sym first) p

some_is : {A : Type 0} (x y : A) → Some x ≡ Some y → x ≡ y
some_is x y e = cc

none_is : {A : Type 0} (x : A) → None ≡ Some x → ⊥
none_is x e = cc

done_is : (r q : RecordView) → Some (Done r) ≡ Some (Done q) → r ≡ q
done_is r q e = cc

pub none_below : (entries : List (Entry RecordView)) → AreDistinctBelow 0 entries []
none_below entries = record {
  recorded = λ k d lt. absurd (omega (arith, lt));
  all = λ k r s lt at is. absurd (omega (arith, lt));
  once = λ i j d lt less. absurd (omega (arith, less));
}

module _ (entries : List (Entry RecordView)) (n : ℕ) where
  -- what holds below a number, and at it, holds below the next
  all_next : (failures : List NumberedFailure) → AllHaveCase n entries failures
      → ((r : RecordView) (s : Shrunk JudgedRun) → slice_get entries n ≡ Some (Done r) → IsShrunk r s
      → Any (HasCase (case_line r.plan.model s.last)) failures)
      → AllHaveCase (n + 1) entries failures
  all_next failures below here k r s lt at is = dite (dec_le n k)
      (λ (le : n ≤ k).
      let same : k ≡ n = omega (arith, lt, le) in
      here r s (subst (λ (m : ℕ). slice_get entries m ≡ Some (Done r)) same at) is)
      (λ gt. below k r s (omega (arith, gt)) at is)

  -- an entry that is no record has no failure
  pub no_record : (failures : List NumberedFailure) → ((r : RecordView) → slice_get entries n ≡ Some (Done r) → ⊥)
      → AreDistinctBelow n entries failures → AreDistinctBelow (n + 1) entries failures
  no_record failures none h = record {
    recorded = h.recorded;
    all = all_next failures h.all (λ r s at is. absurd (none r at));
    once = h.once;
  }

  module _ (r : RecordView) (at : slice_get entries n ≡ Some (Done r)) where
    here : (q : RecordView) → slice_get entries n ≡ Some (Done q) → r ≡ q
    here q other = done_is r q (sym at ∙ other)

    kept_passed : (before : List NumberedFailure) → failure_in r.outcome ≡ None
        → AreDistinctBelow n entries before → AreDistinctBelow (n + 1) entries before
    kept_passed before none h = record {
      recorded = h.recorded;
      all = all_next before h.all (λ q s other is.
          absurd (none_is s (sym none ∙ (ap (λ x. failure_in x.outcome) (here q other) ∙ is))));
      once = h.once;
    }

    -- the case of the record's failure is that of the shrunk case
    case_here : (q : RecordView) (s t : Shrunk JudgedRun) (failures : List NumberedFailure)
        → slice_get entries n ≡ Some (Done q) → IsShrunk q t → IsShrunk r s
        → Any (HasCase (case_line r.plan.model s.last)) failures → Any (HasCase (case_line q.plan.model t.last)) failures
    case_here q s t failures other is own any =
        let same_record = here q other in
        let same_shrunk : s ≡ t = some_is s t (sym own ∙ (ap (λ x. failure_in x.outcome) same_record ∙ is)) in
        subst (λ (c : List ℕ). Any (HasCase c) failures)
        (ap (λ x. case_line x.plan.model s.last) same_record ∙ ap (λ x. case_line q.plan.model x.last) same_shrunk)
        any

    kept_known : (before : List NumberedFailure) (s : Shrunk JudgedRun) → IsShrunk r s
        → Any (HasCase (case_line r.plan.model s.last)) before
        → AreDistinctBelow n entries before → AreDistinctBelow (n + 1) entries before
    kept_known before s own any h = record {
      recorded = h.recorded;
      all = all_next before h.all (λ q t other is. case_here q s t before other is own any);
      once = h.once;
    }

    kept_new : (before : List NumberedFailure) (f : NumberedFailure) → IsFailureAt n r f
        → All (λ g. HaveOtherCases g f) before
        → AreDistinctBelow n entries before → AreDistinctBelow (n + 1) entries (before ++ f ∷ [])
    kept_new before f is others h =
        let s = is.0 in
        let own : IsShrunk r s = is.2 in
        let recorded : IsRecorded entries f = (
          r,
          subst (λ (m : ℕ). slice_get entries m ≡ Some (Done r)) (sym is.1) at,
          (s, subst (λ (m : ℕ). f.number ≡ m) (sym is.1) is.1, own, is.3),
        ) in
        let has : HasCase (case_line r.plan.model s.last) f = is.3.case in record {
          recorded = All-append (IsRecorded entries) before (f ∷ []) h.recorded (all_one (IsRecorded entries) f recorded);
          all = all_next (before ++ f ∷ [])
              (λ k q t lt other is. any_kept _ before (f ∷ []) (h.all k q t lt other is))
              (λ q t other is. case_here q s t (before ++ f ∷ []) other is own (Any-push _ before f has));
          once = all_pairs_push HaveOtherCases before f h.once (λ k d lt. others k d lt);
        }

    pub kept_next : (before after : List NumberedFailure) → Keeps n r before after
        → AreDistinctBelow n entries before → AreDistinctBelow (n + 1) entries after
    kept_next before after (passed none same) h =
        subst (λ (l : List NumberedFailure). AreDistinctBelow (n + 1) entries l) (sym same) (kept_passed before none h)
    kept_next before after (known s own any same) h =
        subst (λ (l : List NumberedFailure). AreDistinctBelow (n + 1) entries l) (sym same) (kept_known before s own any h)
    kept_next before after (new f is others same) h =
        subst (λ (l : List NumberedFailure). AreDistinctBelow (n + 1) entries l) (sym same) (kept_new before f is others h)
