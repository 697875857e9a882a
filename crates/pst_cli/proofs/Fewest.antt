-- The smallest failure, as far as the entries are looked at.
use Rattle.std.proofs.Common.{◌≡◌, ℕ, suc, ◌+◌, ◌-◌, ◌^◌, ◌<◌, ◌≤◌, List, [], ◌∷◌, get_or, Option, Some, None, ◌⊎◌, inl, inr, Bool, true, false, true≢false, arith, refl, sym, ◌∙◌, ap, subst, length, map, min, drop}
use Rattle.std.proofs.Math.ListN.{drop_of_length-le}
use Rattle.std.proofs.Math.Seq.{drop-cons}
use Rattle.std.specs.List.{sum}
use Rattle.std.specs.Prelude.{◌==◌, if◌then◌else◌, nat_lt, IfSome, MatchOption, slice_get}
use Rattle.std.proofs.lemmas.Bool.Decides.{nat_tests}
use mathlib.Core.Logic.{dite}
use native.Mathlib.Decide.{dec_le}
use Rattle.pst_cli.specs.CampaignFailures.{IsFailingRun, IsFailureOfTrial, IsShrunkAt, IsSmallest, IsSmallestIfAny, is_less, command_count, unknown_count}
use Rattle.pst_cli.specs.Smaller.{IsSmaller, before, fewer, only}
use Rattle.pst_cli.specs.declared.failing_run.TrialFailure.{TrialFailure}
use Rattle.pst_ledger.specs.declared.entry.Entry.{Entry}
use Rattle.pst_report.specs.Least.{failure_in, of_record}
use Rattle.pst_shrink.specs.declared.shrinking.FailingCase.{FailingCase}
use Rattle.pst_shrink.specs.declared.shrinking.Shrunk.{Shrunk}
use Rattle.pst_trial.specs.PlanView.{PlanView}
use Rattle.pst_trial.specs.RecordView.{RecordView}
use Rattle.pst_trial.specs.declared.record.JudgedRun.{JudgedRun}

some_is : {A : Type 0} (x y : A) → Some x ≡ Some y → x ≡ y
some_is x y e = cc

none_is : {A : Type 0} (x : A) → None ≡ Some x → ⊥
none_is x e = cc

-- what holds of an option without a value
pub none_of : {A : Type 0} (P : Type 0) (Q : A → Type 0) (r : Option A) → ((a : A) → r ≡ Some a → ⊥) → MatchOption r P Q → P
none_of P Q None not h = h
none_of P Q (Some a) not h = absurd (not a refl)

-- the entries from a number on
pub drop_here : {A : Type 0} (xs : List A) (n : ℕ) (x : A) → n < length xs → x ≡ get_or xs n x → drop n xs ≡ x ∷ drop (n + 1) xs
drop_here xs n x lt is =
    let step : suc n ≡ n + 1 = omega arith in
    drop-cons xs n x lt ∙ (ap (λ y. y ∷ drop (suc n) xs) (sym is) ∙ ap (λ m. x ∷ drop m xs) step)

-- all branches are counted
pub counted_all : {A : Type 0} (f : List A → ℕ) (branches : List (List A)) (count index total : ℕ) → length branches ≤ index → count < 2 ^ 64
    → min (count + sum (map f (drop index branches))) (2 ^ 64 - 1) ≡ total → count ≡ total
counted_all {A} f branches count index total all small is =
    let none : drop index branches ≡ [] = drop_of_length-le branches all in
    let whole : min (count + 0) (2 ^ 64 - 1) ≡ total = subst (λ (bs : List (List A)). min (count + sum (map f bs)) (2 ^ 64 - 1) ≡ total) none is in
    omega (arith, small, whole)

-- ---- the order of failures

abbrev Less : (c u d v : ℕ) → Type 0
Less c u d v = (c < d) ⊎ ((c ≡ d) × (u < v))

abbrev More : (c u d v : ℕ) → Type 0
More c u d v = (d < c) ⊎ ((c ≡ d) × (v ≤ u))

less_if : (c u d v : ℕ) (same : Bool) → (c == d) ≡ same → (if same then nat_lt u v else nat_lt c d) ≡ true → Less c u d v
less_if c u d v true e h = inr (grind (arith, nat_tests), grind (arith, nat_tests))
less_if c u d v false e h = inl (grind (arith, nat_tests))

more_if : (c u d v : ℕ) (same : Bool) → (c == d) ≡ same → (if same then nat_lt u v else nat_lt c d) ≡ false → More c u d v
more_if c u d v true e h = inr (grind (arith, nat_tests), grind (arith, nat_tests))
more_if c u d v false e h = inl (grind (arith, nat_tests))

is_less_if : (c u d v : ℕ) (same : Bool) → (c == d) ≡ same → Less c u d v → (if same then nat_lt u v else nat_lt c d) ≡ true
is_less_if c u d v true e (inl less) = absurd (grind (arith, nat_tests))
is_less_if c u d v true e (inr less) = let lt = less.1 in grind (arith, nat_tests)
is_less_if c u d v false e (inl less) = grind (arith, nat_tests)
is_less_if c u d v false e (inr less) = let same = less.0 in absurd (grind (arith, nat_tests))

is_more_if : (c u d v : ℕ) (same : Bool) → (c == d) ≡ same → More c u d v → (if same then nat_lt u v else nat_lt c d) ≡ false
is_more_if c u d v true e (inl less) = absurd (grind (arith, nat_tests))
is_more_if c u d v true e (inr less) = let le = less.1 in grind (arith, nat_tests)
is_more_if c u d v false e (inl less) = grind (arith, nat_tests)
is_more_if c u d v false e (inr less) = let same = less.0 in absurd (grind (arith, nat_tests))

less_less : (c u d v e w : ℕ) → Less c u d v → Less d v e w → Less c u e w
less_less c u d v e w (inl p) (inl q) = inl (omega (arith, p, q))
less_less c u d v e w (inl p) (inr q) = let same = q.0 in inl (omega (arith, p, same))
less_less c u d v e w (inr p) (inl q) = let same = p.0 in inl (omega (arith, same, q))
less_less c u d v e w (inr p) (inr q) =
    let less = p.1 in let more = q.1 in inr (p.0 ∙ q.0, omega (arith, less, more))

-- what is less than one is less than each that is not less
less_more : (c u d v e w : ℕ) → Less c u d v → More e w d v → Less c u e w
less_more c u d v e w (inl p) (inl q) = inl (omega (arith, p, q))
less_more c u d v e w (inl p) (inr q) = let same = q.0 in inl (omega (arith, p, same))
less_more c u d v e w (inr p) (inl q) = let same = p.0 in inl (omega (arith, same, q))
less_more c u d v e w (inr p) (inr q) =
    let less = p.1 in let more = q.1 in inr (p.0 ∙ sym q.0, omega (arith, less, more))

module _ (a b : FailingCase JudgedRun) where
  less_of : is_less a b ≡ true
      → Less (command_count a.case) (unknown_count a.history.history) (command_count b.case) (unknown_count b.history.history)
  less_of h = less_if (command_count a.case) (unknown_count a.history.history) (command_count b.case) (unknown_count b.history.history) _ refl h

  more_of : is_less a b ≡ false
      → More (command_count a.case) (unknown_count a.history.history) (command_count b.case) (unknown_count b.history.history)
  more_of h = more_if (command_count a.case) (unknown_count a.history.history) (command_count b.case) (unknown_count b.history.history) _ refl h

  to_less : Less (command_count a.case) (unknown_count a.history.history) (command_count b.case) (unknown_count b.history.history)
      → is_less a b ≡ true
  to_less h = is_less_if (command_count a.case) (unknown_count a.history.history) (command_count b.case) (unknown_count b.history.history) _ refl h

  to_more : More (command_count a.case) (unknown_count a.history.history) (command_count b.case) (unknown_count b.history.history)
      → is_less a b ≡ false
  to_more h = is_more_if (command_count a.case) (unknown_count a.history.history) (command_count b.case) (unknown_count b.history.history) _ refl h

  -- a case is not less than itself
  not_less_than_same : command_count a.case ≡ command_count b.case → unknown_count a.history.history ≡ unknown_count b.history.history
      → is_less a b ≡ false
  not_less_than_same p q = to_more (inr (p, omega (arith, q)))

less_than_rest : (a b c : FailingCase JudgedRun) → is_less a b ≡ true → is_less c b ≡ false → is_less a c ≡ true
less_than_rest a b c p q = to_less a c (less_more _ _ _ _ _ _ (less_of a b p) (more_of c b q))

-- what is not less than one is not less than what is less
not_less_than_less : (c a b : FailingCase JudgedRun) → is_less c b ≡ false → is_less a b ≡ true → is_less c a ≡ false
not_less_than_less c a b q p = at (is_less c a) refl
  where
    at : (less : Bool) → is_less c a ≡ less → less ≡ false
    at false e = refl
    at true e =
        let both : is_less c b ≡ true = to_less c b (less_less _ _ _ _ _ _ (less_of c a e) (less_of a b p)) in
        absurd (true≢false (sym both ∙ q))

-- no trial below 0 failed
pub none_yet : (entries : List (Entry RecordView)) → IsSmallestIfAny 0 entries None
none_yet entries k s lt is = absurd (omega (arith, lt))

-- the smaller one of two failing runs is one
pub smaller_fails : (p : PlanView) (found : Option TrialFailure) (next result : TrialFailure) → IsSmaller found next result
    → IfSome found (λ f. IsFailingRun p f.shrunk.now.last) → IsFailingRun p next.shrunk.now.last → IsFailingRun p result.shrunk.now.last
smaller_fails p found next result (only none is) h own =
    subst (λ (f : TrialFailure). IsFailingRun p f.shrunk.now.last) (sym is) own
smaller_fails p found next result (fewer f some less is) h own =
    subst (λ (f : TrialFailure). IsFailingRun p f.shrunk.now.last) (sym is) own
smaller_fails p found next result (before f some more is) h own =
    let Fails : TrialFailure → Type 0 = λ g. IsFailingRun p g.shrunk.now.last in
    let all : IfSome (Some f) Fails = subst (λ (o : Option TrialFailure). IfSome o Fails) some h in
    subst Fails (sym is) all

module _ (entries : List (Entry RecordView)) (n : ℕ) (e : Entry RecordView) (at : slice_get entries n ≡ Some e) where
  -- the failure at the number is that of the entry
  pub at_here : (k : ℕ) (s : Shrunk JudgedRun) → k ≡ n → IsShrunkAt entries k s → of_record failure_in e ≡ Some s
  at_here k s same is =
      let other : slice_get entries n ≡ Some is.0 = subst (λ (m : ℕ). slice_get entries m ≡ Some is.0) same is.1 in
      let entry : e ≡ is.0 = some_is e is.0 (sym at ∙ other) in
      ap (of_record failure_in) entry ∙ is.2

  none_here : of_record failure_in e ≡ None → (k : ℕ) (s : Shrunk JudgedRun) → k ≡ n → IsShrunkAt entries k s → ⊥
  none_here none k s same is = none_is s (sym none ∙ at_here k s same is)

  -- an entry that is no failure
  pub smallest_past : of_record failure_in e ≡ None → (found : Option TrialFailure)
      → IsSmallestIfAny n entries found → IsSmallestIfAny (n + 1) entries found
  smallest_past none None h = λ k s lt is. dite (dec_le n k)
      (λ (le : n ≤ k). none_here none k s (omega (arith, lt, le)) is)
      (λ gt. h k s (omega (arith, gt)) is)
  smallest_past none (Some f) h = record {
    trial = h.trial;
    fewest = λ k s lt is. dite (dec_le n k)
        (λ (le : n ≤ k). absurd (none_here none k s (omega (arith, lt, le)) is))
        (λ gt. h.fewest k s (omega (arith, gt)) is);
    first = h.first;
  }

  module _ (s : Shrunk JudgedRun) (own : of_record failure_in e ≡ Some s)
      (next : TrialFailure) (number : next.trial ≡ n) (shrunk : next.shrunk.now ≡ s) where
    next_is : IsFailureOfTrial entries next
    next_is =
        let Of : Shrunk JudgedRun → Type 0 = λ x. IsShrunkAt entries next.trial x in
        subst Of (sym shrunk) (subst (λ (k : ℕ). IsShrunkAt entries k s) (sym number) (e, at, own))

    -- the shrunk case at the number is that of the next failure
    same_case : (k : ℕ) (t : Shrunk JudgedRun) → k ≡ n → IsShrunkAt entries k t → t ≡ next.shrunk.now
    same_case k t same is = some_is t s (sym (at_here k t same is) ∙ own) ∙ sym shrunk

    abbrev own_case : FailingCase JudgedRun
    own_case = next.shrunk.now.last

    not_less_here : (k : ℕ) (t : Shrunk JudgedRun) → k ≡ n → IsShrunkAt entries k t → is_less t.last own_case ≡ false
    not_less_here k t same is =
        let e = same_case k t same is in
        not_less_than_same t.last own_case (ap (λ (x : Shrunk JudgedRun). command_count x.last.case) e)
        (ap (λ (x : Shrunk JudgedRun). unknown_count x.last.history.history) e)

    -- the failure is the first
    after_none : IsSmallestIfAny n entries None → IsSmallest (n + 1) entries next
    after_none h = record {
      trial = next_is;
      fewest = λ k t lt is. dite (dec_le n k)
          (λ (le : n ≤ k). not_less_here k t (omega (arith, lt, le)) is)
          (λ gt. absurd (h k t (omega (arith, gt)) is));
      first = λ k t lt is. absurd (h k t (omega (arith, lt, number)) is);
    }

    -- it is less than each before
    after_more : (f : TrialFailure) → is_less own_case f.shrunk.now.last ≡ true → IsSmallest n entries f → IsSmallest (n + 1) entries next
    after_more f less h = record {
      trial = next_is;
      fewest = λ k t lt is. dite (dec_le n k)
          (λ (le : n ≤ k). not_less_here k t (omega (arith, lt, le)) is)
          (λ gt. not_less_than_less t.last own_case f.shrunk.now.last (h.fewest k t (omega (arith, gt)) is) less);
      first = λ k t lt is. less_than_rest own_case f.shrunk.now.last t.last less (h.fewest k t (omega (arith, lt, number)) is);
    }

    -- it is not less than one before
    after_less : (f : TrialFailure) → is_less own_case f.shrunk.now.last ≡ false → IsSmallest n entries f → IsSmallest (n + 1) entries f
    after_less f rest h = record {
      trial = h.trial;
      fewest = λ k t lt is. dite (dec_le n k)
          (λ (le : n ≤ k). ap (λ (x : Shrunk JudgedRun). is_less x.last f.shrunk.now.last) (same_case k t (omega (arith, lt, le)) is) ∙ rest)
          (λ gt. h.fewest k t (omega (arith, gt)) is);
      first = h.first;
    }

    pub smallest_next : (found : Option TrialFailure) (result : TrialFailure) → IsSmaller found next result
        → IsSmallestIfAny n entries found → IsSmallestIfAny (n + 1) entries (Some result)
    smallest_next found result (only none is) h =
        let first : IsSmallestIfAny n entries None = subst (λ (o : Option TrialFailure). IsSmallestIfAny n entries o) none h in
        subst (IsSmallest (n + 1) entries) (sym is) (after_none first)
    smallest_next found result (fewer f some less is) h =
        let old : IsSmallestIfAny n entries (Some f) = subst (λ (o : Option TrialFailure). IsSmallestIfAny n entries o) some h in
        subst (IsSmallest (n + 1) entries) (sym is) (after_more f less old)
    smallest_next found result (before f some less is) h =
        let old : IsSmallestIfAny n entries (Some f) = subst (λ (o : Option TrialFailure). IsSmallestIfAny n entries o) some h in
        subst (IsSmallest (n + 1) entries) (sym is) (after_less f less old)
