-- The failures of a page, each run once.
use Rattle.std.proofs.Common.{◌≡◌, ◌⊎◌, inl, inr, ℕ, ◌+◌, ◌<◌, ◌≤◌, List, [], ◌∷◌, ◌++◌, Some, None, length, get_or, arith, length-append, refl, sym, ◌∙◌, ap, subst}
use Rattle.std.proofs.Math.ListN.{get_or-append}
use Rattle.std.proofs.lemmas.List.Elements.{All-append}
use Rattle.std.proofs.lemmas.List.Quantifiers.{Any-push, all_pairs_push}
use Rattle.std.specs.Prelude.{slice_get}
use Rattle.std.specs.List.{All, Any, AllPairs}
use mathlib.Core.Logic.{dite}
use native.Mathlib.Decide.{dec_le}
use Rattle.pst_cli.specs.CampaignFailures.{AllHaveRun, AreFailuresBelow, HasRun, HaveOtherRuns, IsFailingRun, IsFailureOfTrial, IsShrunkAt, IsSmallestIfAny, head_of}
use Rattle.pst_cli.specs.Page.{AreFailing, KeepsFailure, full, known, new}
use Rattle.pst_cli.specs.declared.failing_run.TrialFailure.{TrialFailure}
use Rattle.pst_cli.proofs.Fewest.{at_here}
use Rattle.pst_ledger.specs.declared.entry.Entry.{Entry}
use Rattle.pst_report.specs.Least.{failure_in, of_record}
use Rattle.pst_shrink.specs.declared.shrinking.Shrunk.{Shrunk}
use Rattle.pst_trial.specs.PlanView.{PlanView}
use Rattle.pst_trial.specs.RecordView.{RecordView}
use Rattle.pst_trial.specs.declared.record.JudgedRun.{JudgedRun}

some_is : {A : Type 0} (x y : A) → Some x ≡ Some y → x ≡ y
some_is x y e = cc

none_is : {A : Type 0} (x : A) → None ≡ Some x → ⊥
none_is x e = cc

any_kept : {X : Type 0} (P : X → Type 0) (xs ys : List X) → Any P xs → Any P (xs ++ ys)
any_kept P xs ys (k, x, lt, at, p) = (
  k,
  x,
  (let l = length-append xs ys in omega (arith, lt, l)),
  get_or-append xs ys x k lt ∙ at,
  p,
)

all_one : {X : Type 0} (P : X → Type 0) (x : X) → P x → All P (x ∷ [])
all_one P x p k d lt = let first : k ≡ 0 = omega (arith, lt) in subst (λ (n : ℕ). P (get_or (x ∷ []) n d)) (sym first) p

pub none_below : (most : ℕ) (entries : List (Entry RecordView)) → AreFailuresBelow 0 most entries []
none_below most entries = record {
  trials = λ k d lt. absurd (omega (arith, lt));
  room = omega arith;
  once = λ i j d lt less. absurd (omega (arith, less));
  all = inr (λ k s lt is. absurd (omega (arith, lt)));
}

-- one failure alone
pub one_below : (most : ℕ) (entries : List (Entry RecordView)) (f : TrialFailure) → 1 ≤ most → IsFailureOfTrial entries f
    → AreFailuresBelow 0 most entries (f ∷ [])
one_below most entries f room is = record {
  trials = all_one (IsFailureOfTrial entries) f is;
  room = room;
  once = λ i j d lt less. absurd (omega (arith, lt, less));
  all = inr (λ k s lt is. absurd (omega (arith, lt)));
}

pub one_failing : (p : PlanView) (f : TrialFailure) → IsFailingRun p f.shrunk.now.last → AreFailing p (f ∷ [])
one_failing p f is = all_one (λ g. IsFailingRun p g.shrunk.now.last) f is

pub none_failing : (p : PlanView) → AreFailing p []
none_failing p k d lt = absurd (omega (arith, lt))

-- the failures that are added fail, where those before do
pub failing_next : (p : PlanView) (most trial : ℕ) (s : Shrunk JudgedRun) (before after : List TrialFailure) → IsFailingRun p s.last
    → KeepsFailure most trial s before after → AreFailing p before → AreFailing p after
failing_next p most trial s before after is (full more same) h = subst (AreFailing p) (sym same) h
failing_next p most trial s before after is (known any same) h = subst (AreFailing p) (sym same) h
failing_next p most trial s before after is (new f number own room others same) h =
    let fails : IsFailingRun p f.shrunk.now.last = subst (λ (x : Shrunk JudgedRun). IsFailingRun p x.last) (sym own) is in
    let Fails : TrialFailure → Type 0 = λ g. IsFailingRun p g.shrunk.now.last in
    subst (AreFailing p) (sym same) (All-append Fails before (f ∷ []) h (all_one Fails f fails))

module _ (most : ℕ) (entries : List (Entry RecordView)) (n : ℕ) (e : Entry RecordView) (at : slice_get entries n ≡ Some e) where
  -- what holds below the number, and at it, holds below the next
  all_next : (failures : List TrialFailure) → AllHaveRun n entries failures
      → ((s : Shrunk JudgedRun) → of_record failure_in e ≡ Some s → Any (HasRun s) failures) → AllHaveRun (n + 1) entries failures
  all_next failures below here k s lt is = dite (dec_le n k)
      (λ (le : n ≤ k). here s (at_here entries n e at k s (omega (arith, lt, le)) is))
      (λ gt. below k s (omega (arith, gt)) is)

  all_more : (failures : List TrialFailure) → ((s : Shrunk JudgedRun) → of_record failure_in e ≡ Some s → Any (HasRun s) failures)
      → (length failures ≡ most) ⊎ AllHaveRun n entries failures → (length failures ≡ most) ⊎ AllHaveRun (n + 1) entries failures
  all_more failures here (inl filled) = inl filled
  all_more failures here (inr below) = inr (all_next failures below here)

  -- an entry that is no failure
  pub below_past : (failures : List TrialFailure) → of_record failure_in e ≡ None → AreFailuresBelow n most entries failures
      → AreFailuresBelow (n + 1) most entries failures
  below_past failures none h = record {
    trials = h.trials;
    room = h.room;
    once = h.once;
    all = all_more failures (λ s is. absurd (none_is s (sym none ∙ is))) h.all;
  }

  module _ (s : Shrunk JudgedRun) (own : of_record failure_in e ≡ Some s) where
    run_here : (failures : List TrialFailure) → Any (HasRun s) failures
        → (t : Shrunk JudgedRun) → of_record failure_in e ≡ Some t → Any (HasRun t) failures
    run_here failures any t is = subst (λ (x : Shrunk JudgedRun). Any (HasRun x) failures) (some_is s t (sym own ∙ is)) any

    new_all : (before : List TrialFailure) (f : TrialFailure) → length before < most → Any (HasRun s) (before ++ f ∷ [])
        → (length before ≡ most) ⊎ AllHaveRun n entries before
        → (length (before ++ f ∷ []) ≡ most) ⊎ AllHaveRun (n + 1) entries (before ++ f ∷ [])
    new_all before f room has (inl filled) = absurd (omega (arith, room, filled))
    new_all before f room has (inr below) =
        inr (all_next (before ++ f ∷ []) (λ k t lt is. any_kept (HasRun t) before (f ∷ []) (below k t lt is)) (run_here (before ++ f ∷ []) has))

    pub below_next : (before after : List TrialFailure) → KeepsFailure most n s before after
        → AreFailuresBelow n most entries before → AreFailuresBelow (n + 1) most entries after
    below_next before after (full more same) h =
        subst (λ (l : List TrialFailure). AreFailuresBelow (n + 1) most entries l) (sym same) (record {
          trials = h.trials;
          room = h.room;
          once = h.once;
          all = inl (let room = h.room in omega (arith, room, more));
        })
    below_next before after (known any same) h =
        subst (λ (l : List TrialFailure). AreFailuresBelow (n + 1) most entries l) (sym same) (record {
          trials = h.trials;
          room = h.room;
          once = h.once;
          all = all_more before (run_here before any) h.all;
        })
    below_next before after (new f number is room others same) h =
        let longer = length-append before (f ∷ []) in
        let Of : Shrunk JudgedRun → Type 0 = λ x. IsShrunkAt entries f.trial x in
        let mine : IsFailureOfTrial entries f = subst Of (sym is) (subst (λ (k : ℕ). IsShrunkAt entries k s) (sym number) (e, at, own)) in
        let same_run : HasRun s f = (ap (λ (x : Shrunk JudgedRun). x.last.case) is, ap (λ (x : Shrunk JudgedRun). x.last.history.history) is) in
        let Other : Shrunk JudgedRun → Type 0 = λ x. All (λ g. HasRun x g → ⊥) before in
        let apart : All (λ g. HaveOtherRuns g f) before = subst Other (sym is) others in
        let has : Any (HasRun s) (before ++ f ∷ []) = Any-push (HasRun s) before f same_run in
        subst (λ (l : List TrialFailure). AreFailuresBelow (n + 1) most entries l) (sym same) (record {
          trials = All-append (IsFailureOfTrial entries) before (f ∷ []) h.trials (all_one (IsFailureOfTrial entries) f mine);
          room = omega (arith, room, longer);
          once = all_pairs_push HaveOtherRuns before f h.once (λ k d lt. apart k d lt);
          all = new_all before f room has h.all;
        })

    -- what is added leaves the first failure; and there is one if a trial failed
    pub head_next : (before after : List TrialFailure) → n < length entries → KeepsFailure most n s before after
        → IsSmallestIfAny (length entries) entries (head_of before) → IsSmallestIfAny (length entries) entries (head_of after)
    head_next before after lt (full more same) h =
        subst (λ (l : List TrialFailure). IsSmallestIfAny (length entries) entries (head_of l)) (sym same) h
    head_next before after lt (known any same) h =
        subst (λ (l : List TrialFailure). IsSmallestIfAny (length entries) entries (head_of l)) (sym same) h
    head_next [] after lt (new f number is room others same) h = absurd (h n s lt (e, at, own))
    head_next (g ∷ gs) after lt (new f number is room others same) h =
        subst (λ (l : List TrialFailure). IsSmallestIfAny (length entries) entries (head_of l)) (sym same) h
