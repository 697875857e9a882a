-- The next calls of branches whose calls follow each other.
use Rattle.std.proofs.Common.{◌≡◌, ℕ, zero, suc, ◌+◌, ◌<◌, ◌≤◌, inl, inr, List, length, get_or, Option, Some, None, true, refl, sym, ap, subst, ◌∙◌, arith}
use Rattle.std.proofs.lemmas.Bool.Decides.{nat_tests}
use Rattle.std.proofs.lemmas.Option.{get_or_from_slice_get, slice_get-get_or, slice_get_cases, slice_get_within}
use Rattle.std.specs.Prelude.{slice_get, MatchOption}
use Rattle.pst_case.specs.declared.history.CallTime.{CallTime}
use Rattle.pst_grid.proofs.Placing.{IsAt-branch}
use Rattle.pst_grid.specs.Completions.{IsAt}
use Rattle.pst_judge.specs.InTime.{command_at, AreInTurn}
use Rattle.pst_judge.specs.RealTime.{is_over, call_in, next_of, count_of, AreLengths, AreTimely}

-- what is over before a time
over_at : (o : Option ℕ) (t : ℕ) → is_over o t ≡ true → (s : ℕ) × (o ≡ Some s) × (s < t)
over_at None t h = absurd (cc)
over_at (Some s) t h = (s, refl, grind (arith, nat_tests))

at_over : (s t : ℕ) → s < t → is_over (Some s) t ≡ true
at_over s t h = grind (arith, nat_tests)

module _ (times : List (List CallTime)) where
  -- the next call of a branch, by its index
  pub next_at : (done : List ℕ) (b : ℕ) (x : CallTime) → next_of times done b ≡ Some x → command_at times b (get_or done b 0) ≡ Some x
  next_at done b x h = by (slice_get times b) (slice_get done b) refl refl
    where
      by : (o : Option (List CallTime)) (p : Option ℕ) → slice_get times b ≡ o → slice_get done b ≡ p → command_at times b (get_or done b 0) ≡ Some x
      by None p e f = let q : None ≡ Some x = sym (ap (λ o. call_in o (slice_get done b)) e) ∙ h in absurd (cc)
      by (Some v) None e f = let q : None ≡ Some x = sym (ap (λ o. call_in o (slice_get done b)) e ∙ ap (λ o. call_in (Some v) o) f) ∙ h in absurd (cc)
      by (Some v) (Some i) e f =
          let same : get_or done b 0 ≡ i = get_or_from_slice_get done b i 0 f in
          ap (λ k. call_in (slice_get times b) (Some k)) same ∙ sym (ap (λ o. call_in (slice_get times b) o) f) ∙ h

  -- the branch of a call is one of them
  pub branch_at : (b i : ℕ) (x : CallTime) → command_at times b i ≡ Some x → b < length times
  branch_at b i x h = by (slice_get times b) refl
    where
      by : (o : Option (List CallTime)) → slice_get times b ≡ o → b < length times
      by None e = let q : None ≡ Some x = sym (ap (λ o. call_in o (Some i)) e) ∙ h in absurd (cc)
      by (Some v) e = slice_get_within times b v e

  -- a branch that has a call has those before it
  pub earlier_at : (b i k : ℕ) (y : CallTime) → i ≤ k → command_at times b k ≡ Some y → (x : CallTime) × (command_at times b i ≡ Some x)
  earlier_at b i k y l h = by (slice_get times b) refl
    where
      by : (o : Option (List CallTime)) → slice_get times b ≡ o → (x : CallTime) × (command_at times b i ≡ Some x)
      by None e = let q : None ≡ Some y = sym (ap (λ o. call_in o (Some k)) e) ∙ h in absurd (cc)
      by (Some v) e =
          let q : slice_get v k ≡ Some y = sym (ap (λ o. call_in o (Some k)) e) ∙ h in
          let w = slice_get_within v k y q in
          elim ((slice_get_cases v i).1) [
            | inl p ↦ (p.0, ap (λ o. call_in o (Some i)) e ∙ p.2)
            | inr p ↦ absurd (omega (arith, p.0, w, l))
          ]

  within_at : (lengths : List ℕ) → AreLengths times lengths → (b i : ℕ) (x : CallTime) → command_at times b i ≡ Some x → i < get_or lengths b 0
  within_at lengths are b i x h = by (slice_get times b) refl
    where
      by : (o : Option (List CallTime)) → slice_get times b ≡ o → i < get_or lengths b 0
      by None e = let q : None ≡ Some x = sym (ap (λ o. call_in o (Some i)) e) ∙ h in absurd (cc)
      by (Some v) e =
          let q : slice_get v i ≡ Some x = sym (ap (λ o. call_in o (Some i)) e) ∙ h in
          let n : get_or lengths b 0 ≡ length v = are b ∙ ap count_of e in
          omega (arith, n, slice_get_within v i x q)

  -- the call whose index is how many of its branch are done is the next one
  pub at_next : (lengths : List ℕ) → AreLengths times lengths → (done : List ℕ) → IsAt lengths done → (b : ℕ) (x : CallTime) → command_at times b (get_or done b 0) ≡ Some x → next_of times done b ≡ Some x
  at_next lengths are done at b x h =
      let left = within_at lengths are b (get_or done b 0) x h in
      ap (λ o. call_in (slice_get times b) o) (slice_get-get_or done b 0 (IsAt-branch lengths done b at left)) ∙ h

  -- if a call is over, so are those of its branch before it
  pub earlier_over : AreTimely times → AreInTurn times → (n b i : ℕ) (x y : CallTime) (t : ℕ) → command_at times b i ≡ Some x → command_at times b (i + n) ≡ Some y → is_over y.completed t ≡ true → is_over x.completed t ≡ true
  earlier_over timely turns zero b i x y t hx hy over =
      let z : i + 0 ≡ i = omega arith in
      let q : Some x ≡ Some y = sym hx ∙ sym (ap (command_at times b) z) ∙ hy in
      let e : x ≡ y = cc in ap (λ c. is_over c.completed t) e ∙ over
  earlier_over timely turns (suc n) b i x y t hx hy over =
      let z : suc i + n ≡ i + suc n = omega arith in
      let hy' : command_at times b (suc i + n) ≡ Some y = ap (command_at times b) z ∙ hy in
      let next = earlier_at b (suc i) (suc i + n) y (omega arith) hy' in
      let k = earlier_over timely turns n b (suc i) next.0 y t next.1 hy' over in
      let turn = turns b i x next.0 hx next.1 in
      let a = over_at next.0.completed t k in
      let late : next.0.invoked ≤ a.0 = subst (λ o. MatchOption o (Unit {0}) (λ s. next.0.invoked ≤ s)) a.1 (timely b (suc i) next.0 next.1) in
      ap (λ o. is_over o t) turn.1 ∙ at_over turn.0 t (omega (arith, turn.2, late, a.2))
