-- The letters of the merge that a verdict rests on.
use Rattle.std.proofs.Common.{◌≡◌, ℕ, zero, suc, ◌+◌, ◌-◌, ◌≤◌, Bool, List, [], ◌∷◌, ◌++◌, length, take, drop, ◌⊎◌, inl, inr, refl, sym, ap, ◌∙◌, subst, get_or, arith}
use Rattle.std.proofs.lemmas.List.{take-append-drop, length-take-le, take_all, append-nil}
use Rattle.std.proofs.lemmas.Bool.Decides.{nat_tests}
use Rattle.pst_case.specs.declared.case.Case.{Case}
use Rattle.pst_case.specs.declared.history.History.{History}
use Rattle.pst_eval.specs.declared.callbacks.FaultPlace.{FaultPlace}
use Rattle.pst_grid.specs.Answers.{IsAnswerAmong, ending}
use Rattle.pst_grid.specs.Merges.{IsMerge, IsUpTo, after, later, run, one_more, times, none_done}
use Rattle.pst_grid.specs.Orders.{IsMergeInOrder, NeverBlocks}
use Rattle.pst_grid.specs.declared.steps.Ending.{Ending}
use Rattle.pst_grid.specs.declared.steps.Ending.TheVariants.{AllTrue, StopsAt}
use Rattle.pst_grid.specs.declared.steps.SomeAnswer.{SomeAnswer}
use Rattle.pst_grid.specs.declared.steps.SomeAnswer.TheVariants.{Found, Faulted as FaultedWord, Nothing}
use Rattle.pst_grid.specs.declared.steps.StepOutcome.{StepOutcome}
use Rattle.pst_grid.specs.declared.steps.StepOutcome.TheVariants.{Next, Stop}
use Rattle.pst_grid.specs.declared.steps.StopReason.{StopReason}
use Rattle.pst_grid.specs.declared.steps.StopReason.TheVariants.{False, Fault}
use Rattle.pst_judge.proofs.FromSearch.{first_in_order, judged_by}
use Rattle.pst_judge.proofs.Shifted.{shifted, shifted-true, shifted-stops, from_false, from_fault}
use Rattle.pst_judge.specs.FromAnswer.{verdict_of, letters_of}
use Rattle.pst_judge.specs.InOrder.{IsFurthestAmong, IsFaultingAmong, HasLettersAmong, IsInterleavingAmong, IsJudgedAmong}
use Rattle.pst_judge.specs.Interleaving.{word_or}
use Rattle.pst_judge.specs.Replay.{Asking, replayed_asking, branch_lengths}
use Rattle.pst_judge.specs.declared.judgement.Verdict.{Verdict}
use Rattle.pst_judge.specs.declared.judgement.Verdict.TheVariants.{Explained, Faulted, Unexplained, Broken}
use Rattle.pst_model.specs.declared.model.Source.{Source}
use Rattle.pst_value.specs.declared.value.Value.{Value}

-- ---- merges that begin alike

times_append : (c : ℕ) (v w : List ℕ) → times c (v ++ w) ≡ times c v + times c w
times_append c [] w = omega arith
times_append c (a ∷ v) w = omega (arith, times_append c v w)

no_letters : (w : List ℕ) → ((c : ℕ) → times c w ≡ 0) → w ≡ []
no_letters [] h = refl
no_letters (a ∷ w) h = let z = h a in absurd (grind (arith, nat_tests))

-- a merge with more letters is itself
no_more : (lengths w more : List ℕ) → IsMerge lengths w → IsMerge lengths (w ++ more) → more ≡ []
no_more lengths w more k j = no_letters more (λ c. let a = k c in let b = j c in let t = times_append c w more in omega (arith, a, b, t))

short_or_long : (n k : ℕ) → (n ≤ k) ⊎ (k ≤ n)
short_or_long zero k = inl (omega arith)
short_or_long (suc n) zero = inr (omega arith)
short_or_long (suc n) (suc k) = at (short_or_long n k)
  where
    at : (n ≤ k) ⊎ (k ≤ n) → (suc n ≤ suc k) ⊎ (suc k ≤ suc n)
    at (inl h) = inl (omega (arith, h))
    at (inr h) = inr (omega (arith, h))

later_stops : {F : Type 0} (e : Ending F) (n : ℕ) (why : StopReason F) → later e ≡ StopsAt (suc n) why → e ≡ StopsAt n why
later_stops AllTrue n why h = absurd (cc)
later_stops (StopsAt k other) n why h = let p : suc k ≡ suc n = cc in let q : other ≡ why = cc in let z : k ≡ n = omega (arith, p) in (λ i. StopsAt (z i) (q i))

-- the letters before the stop are those of true events
module _ {S F : Type 0} (turn : S → ℕ → ℕ → StepOutcome S F) (rest : S → Ending F) where
  after_stops : (t : StepOutcome S F) (k : S → Ending F) (n : ℕ) (why : StopReason F) → after t k ≡ StopsAt (suc n) why → (next : S) × (t ≡ Next next) × (k next ≡ StopsAt n why)
  after_stops (Next next) k n why h = (next, refl, later_stops (k next) n why h)
  after_stops (Stop other) k n why h = let p : 0 ≡ suc n = cc in absurd (omega (arith, p))

  begins_true : (done : List ℕ) (s : S) (w : List ℕ) (n : ℕ) (why : StopReason F) → run turn rest done s w ≡ StopsAt n why
      → (more : List ℕ) → (e : Ending F) × (run turn rest done s (take n w ++ more) ≡ shifted (length (take n w)) e)
  begins_true done s [] zero why h more = (_, refl)
  begins_true done s [] (suc n) why h more = (_, refl)
  begins_true done s (b ∷ w) zero why h more = (_, refl)
  begins_true done s (b ∷ w) (suc n) why h more =
      let q = after_stops (turn s b (get_or done b 0)) (λ next. run turn rest (one_more done b) next w) n why h in
      let r = begins_true (one_more done b) q.0 w n why q.2 more in
      (r.0, ap (λ t. after t (λ next. run turn rest (one_more done b) next (take n w ++ more))) q.1 ∙ ap later r.1)

-- ---- the letters of a verdict

module _ (m : Source) (asked : Asking) (order : List ℕ → ℕ → Bool) (c : Case) (h : History) where
  abbrev lengths : List ℕ
  lengths = branch_lengths c

  abbrev W : List ℕ → Type 0
  W = IsMergeInOrder order lengths

  -- no letters, where all merges stop before the branches
  no_letters_before : (n : ℕ) (merge : List ℕ) → n ≤ length c.prefix → [] ≡ take (n - length c.prefix) merge
  no_letters_before n merge early = let none : n - length c.prefix ≡ 0 = omega (arith, early) in sym (ap (λ left. take left merge) none)

  pub furthest_early : NeverBlocks order lengths → (n : ℕ) → ((w : List ℕ) → replayed_asking m asked c h w ≡ StopsAt n False) → n ≤ length c.prefix → IsFurthestAmong m asked c h W n []
  furthest_early never n all early =
      let first = first_in_order order lengths never in (
        (first.0, ((first.1.0, all first.0), λ w other. first.1.1 w other.0), no_letters_before n first.0 early),
        ((first.0, first.1.0), λ more merge. all more),
      )

  pub faulting_early : NeverBlocks order lengths → (n : ℕ) (p : FaultPlace) → ((w : List ℕ) → replayed_asking m asked c h w ≡ StopsAt n (Fault p)) → n ≤ length c.prefix → IsFaultingAmong m asked c h W p []
  faulting_early never n p all early =
      let first = first_in_order order lengths never in
      (first.0, n, ((first.1.0, (n, p, all first.0)), λ w other. first.1.1 w other.0), all first.0, no_letters_before n first.0 early)

  -- the prefix is through, and the search has answered
  module _ (turn : Value → ℕ → ℕ → StepOutcome Value FaultPlace) (rest : Value → Ending FaultPlace) (s : Value) (all : (w : List ℕ) → replayed_asking m asked c h w ≡ shifted (length c.prefix) (ending turn rest lengths s w)) where
    abbrev prefix : ℕ
    prefix = length c.prefix

    abbrev from : List ℕ → Ending FaultPlace
    from w = ending turn rest lengths s w

    stops_to : (w : List ℕ) (k : ℕ) (why : StopReason FaultPlace) → from w ≡ StopsAt k why → replayed_asking m asked c h w ≡ StopsAt (prefix + k) why
    stops_to w k why e = all w ∙ ap (shifted prefix) e ∙ shifted-stops prefix k why

    false_from : (w : List ℕ) (k : ℕ) → replayed_asking m asked c h w ≡ StopsAt (prefix + k) False → from w ≡ StopsAt k False
    false_from w k e =
        let q = from_false prefix (from w) (prefix + k) (sym (all w) ∙ e) in
        let z = q.2 in
        let same : q.0 ≡ k = omega (arith, z) in
        q.1 ∙ ap (λ n. StopsAt n False) same

    letters_left : (k : ℕ) (w : List ℕ) → take k w ≡ take ((prefix + k) - prefix) w
    letters_left k w = let left : (prefix + k) - prefix ≡ k = omega arith in sym (ap (λ n. take n w) left)

    module _ (far : ℕ) (judged : IsJudgedAmong m asked c h W (Unexplained (prefix + far))) where
      -- each merge that begins so stops as far
      stops_there : (w more : List ℕ) → W w → from w ≡ StopsAt far False → W (take far w ++ more) → replayed_asking m asked c h (take far w ++ more) ≡ StopsAt (prefix + far) False
      stops_there w more merge stops other = at (short_or_long far (length w))
        where
          u : List ℕ
          u = take far w ++ more

          ends : (e : Ending FaultPlace) → from u ≡ e → (f : Ending FaultPlace) → from u ≡ shifted far f → replayed_asking m asked c h u ≡ StopsAt (prefix + far) False
          ends AllTrue is f begins = absurd (judged.0 u (other, all u ∙ ap (shifted prefix) is ∙ shifted-true prefix))
          ends (StopsAt n (Fault place)) is f begins = absurd (judged.1 u (other, (prefix + n, place, stops_to u n (Fault place) is)))
          ends (StopsAt n False) is f begins =
              let here = stops_to u n False is in
              let most = judged.3 u (prefix + n) (other, here) in
              let q = from_false far f n (sym begins ∙ is) in
              let low = q.2 in
              let same : prefix + n ≡ prefix + far = omega (arith, most, low) in
              here ∙ ap (λ j. StopsAt j False) same

          at : (far ≤ length w) ⊎ (length w ≤ far) → replayed_asking m asked c h u ≡ StopsAt (prefix + far) False
          at (inl short) =
              let b = begins_true turn rest (none_done lengths) s w far False stops more in
              ends (from u) refl b.0 (b.1 ∙ ap (λ n. shifted n b.0) (length-take-le far w short))
          at (inr long) =
              let whole : take far w ≡ w = take_all far w long in
              let P : List ℕ → Type 0 = λ x. IsMerge lengths (x ++ more) in
              let none : more ≡ [] = no_more lengths w more merge.0 (subst P whole other.0) in
              let same : u ≡ w = ap (λ x. x ++ more) whole ∙ ap (λ x. w ++ x) none ∙ append-nil w in
              ap (replayed_asking m asked c h) same ∙ stops_to w far False stops

      furthest_by : (w : List ℕ) → W w → from w ≡ StopsAt far False → ((v : List ℕ) → W v × (from v ≡ StopsAt far False) → IsUpTo w v) → IsFurthestAmong m asked c h W (prefix + far) (take far w)
      furthest_by w merge stops least =
          let Q : List ℕ → Type 0 = λ x. W x in (
            (w, ((merge, stops_to w far False stops), λ v e. least v (e.0, false_from v far e.1)), letters_left far w),
            ((drop far w, subst Q (sym (take-append-drop far w)) merge), λ more other. stops_there w more merge stops other),
          )

    pub letters_by : (a : SomeAnswer FaultPlace) → IsAnswerAmong turn rest lengths s W a → HasLettersAmong m asked c h W (verdict_of prefix a) (letters_of a)
    letters_by (Found word) k = tt
    letters_by (FaultedWord word at place) k =
        let stops = stops_to word.items at (Fault place) k.1.1 in (
          word.items,
          prefix + at,
          ((k.1.0.0.0, (prefix + at, place, stops)), λ w e. let q = from_fault prefix (from w) e.1.0 e.1.1 (sym (all w) ∙ e.1.2) in k.1.0.1 w (e.0, (q.0, e.1.1, q.1))),
          stops,
          letters_left at word.items,
        )
    letters_by (Nothing far word) k =
        furthest_by far (judged_by m asked order c h turn rest s prefix all (Nothing far word) k) word.items k.2.0.0 k.2.0.1 k.2.1

-- with the word of a verdict that explains
module _ (m : Source) (asked : Asking) (c : Case) (h : History) (W : List ℕ → Type 0) where
  pub interleaving_of : (v : Verdict) (letters word : List ℕ) → HasLettersAmong m asked c h W v letters → word ≡ word_or v letters → IsInterleavingAmong m asked c h W v word
  interleaving_of (Explained w) letters word k e = e
  interleaving_of (Faulted place) letters word k e = subst (IsFaultingAmong m asked c h W place) (sym e) k
  interleaving_of (Unexplained far) letters word k e = subst (IsFurthestAmong m asked c h W far) (sym e) k
  interleaving_of (Broken number) letters word k e = e ∙ k
