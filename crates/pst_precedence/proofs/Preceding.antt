-- A merge is in the order that keeps precedences just where each earlier call is in it before its later one.
use Rattle.std.proofs.Common.{◌≡◌, ℕ, zero, suc, ◌+◌, ◌<◌, ◌≤◌, ◌⊎◌, inl, inr, List, [], ◌∷◌, length, get_or, take, replicate, Bool, true, false, not, Some, refl, sym, ap, ◌∙◌, subst, arith}
use Rattle.std.proofs.lemmas.Bool.{cases_eq}
use Rattle.std.proofs.lemmas.Bool.Decides.{nat_tests}
use Rattle.std.proofs.lemmas.List.{get_or-set_same, get_or-set_other}
use Rattle.std.proofs.lemmas.List.Sums.{AllPass-from_list_all, list_all-from_AllPass}
use Rattle.std.specs.Prelude.{◌==◌, slice_get, if◌then◌else◌}
use Rattle.pst_grid.proofs.Answering.{IsAt-none, merge}
use Rattle.pst_grid.proofs.Completing.{Completes-head, Completes-tail}
use Rattle.pst_grid.proofs.Placing.{IsAt-branch, IsAt-more}
use Rattle.pst_grid.specs.Completions.{IsAt, Completes}
use Rattle.pst_grid.specs.Merges.{times, one_more, none_done}
use Rattle.pst_grid.specs.Orders.{IsInOrder}
use Rattle.pst_precedence.proofs.Kept.{closing, to_close}
use Rattle.pst_precedence.specs.Before.{IsAtPlace, IsKeptIn, KeepingIsBefore}
use Rattle.pst_precedence.specs.Precedences.{closes, keeping}
use Rattle.pst_precedence.specs.declared.precedence.Call.{Call}
use Rattle.pst_precedence.specs.declared.precedence.Precedence.{Precedence}

-- ---- one precedence at a time

-- the order that keeps one
abbrev one_kept : Precedence → List ℕ → ℕ → Bool
one_kept p done b = not (closes p done b)

each_kept : (ps : List Precedence) (k : ℕ) (d : Precedence) → k < length ps → (done w : List ℕ) → IsInOrder (keeping ps) done w → IsInOrder (one_kept (get_or ps k d)) done w
each_kept ps k d l done [] h = tt
each_kept ps k d l done (b ∷ w) h = (AllPass-from_list_all (λ p. not (closes p done b)) ps h.0 k d l, each_kept ps k d l (one_more done b) w h.1)

all_kept : (ps : List Precedence) (done w : List ℕ) → ((k : ℕ) (d : Precedence) → k < length ps → IsInOrder (one_kept (get_or ps k d)) done w) → IsInOrder (keeping ps) done w
all_kept ps done [] h = tt
all_kept ps done (b ∷ w) h =
    (list_all-from_AllPass (λ p. not (closes p done b)) ps (λ k d l. (h k d l).0), all_kept ps (one_more done b) w (λ k d l. (h k d l).1))

-- ---- places

-- a letter more
shifted : (done : List ℕ) (b c : ℕ) (w : List ℕ) → b < length done → get_or (one_more done b) c 0 + times c w ≡ get_or done c 0 + times c (b ∷ w)
shifted done b c w l = elim (cases_eq b c) [
  | inl e ↦ (let r : get_or (one_more done b) c 0 ≡ get_or done b 0 + 1 = subst (λ a. get_or (one_more done b) a 0 ≡ get_or done b 0 + 1) e (get_or-set_same done b (get_or done b 0 + 1) 0 l) in
      let s : get_or done b 0 ≡ get_or done c 0 = ap (λ a. get_or done a 0) e in
      let k : ◌≡◌ {A = ℕ} (if b == c then 1 else 0) 1 = grind (arith, nat_tests) in
      omega (arith, r, s, k))
  | inr ne ↦ (let r : get_or (one_more done b) c 0 ≡ get_or done c 0 = get_or-set_other done b c (get_or done b 0 + 1) 0 (λ e. ne (sym e)) in
      let k : ◌≡◌ {A = ℕ} (if b == c then 1 else 0) 0 = grind (arith, nat_tests) in
      omega (arith, r, k))
]

-- the call is at this place of a word that follows so many calls of each branch
abbrev IsAtFrom : List ℕ → List ℕ → ℕ → Call → Type 0
IsAtFrom done w i call = (slice_get w i ≡ Some call.branch) × (get_or done call.branch 0 + times call.branch (take i w) ≡ call.index)

-- wherever the later call is in the word, the earlier one is done or before it
abbrev IsKeptFrom : List ℕ → List ℕ → Precedence → Type 0
IsKeptFrom done w p = (j : ℕ) → IsAtFrom done w j p.later → (p.earlier.index < get_or done p.earlier.branch 0) ⊎ ((i : ℕ) × (i < j) × IsAtFrom done w i p.earlier)

module _ (done : List ℕ) (b : ℕ) (w : List ℕ) (inside : b < length done) where
  further : (i : ℕ) (call : Call) → IsAtFrom (one_more done b) w i call → IsAtFrom done (b ∷ w) (suc i) call
  further i call at = (at.0, sym (shifted done b call.branch (take i w) inside) ∙ at.1)

  nearer : (i : ℕ) (call : Call) → IsAtFrom done (b ∷ w) (suc i) call → IsAtFrom (one_more done b) w i call
  nearer i call at = (at.0, shifted done b call.branch (take i w) inside ∙ at.1)

  -- the first place
  first_branch : (call : Call) → IsAtFrom done (b ∷ w) 0 call → b ≡ call.branch
  first_branch call at = let e : Some b ≡ Some call.branch = at.0 in cc

  first_index : (call : Call) → IsAtFrom done (b ∷ w) 0 call → call.index ≡ get_or done call.branch 0
  first_index call at = omega (arith, at.1)

  at_first : (call : Call) → b ≡ call.branch → call.index ≡ get_or done call.branch 0 → IsAtFrom done (b ∷ w) 0 call
  at_first call e f = (ap Some e, omega (arith, f))

  -- how many are done of a branch after one more of this one
  more_same : (c : ℕ) → b ≡ c → get_or (one_more done b) c 0 ≡ get_or done c 0 + 1
  more_same c e =
      let k : times c (b ∷ []) ≡ 1 = (let q : ◌≡◌ {A = ℕ} (if b == c then 1 else 0) 1 = grind (arith, nat_tests) in omega (arith, q)) in
      omega (arith, shifted done b c [] inside, k)

  more_other : (c : ℕ) → (b ≡ c → ⊥) → get_or (one_more done b) c 0 ≡ get_or done c 0
  more_other c ne = get_or-set_other done b c (get_or done b 0 + 1) 0 (λ e. ne (sym e))

  -- what is done after one more was done before, or is the first call of the word
  done_or_first : (call : Call) → call.index < get_or (one_more done b) call.branch 0 → (call.index < get_or done call.branch 0) ⊎ IsAtFrom done (b ∷ w) 0 call
  done_or_first call l = elim (cases_eq b call.branch) [
    | inl e ↦ elim (cases_eq call.index (get_or done call.branch 0)) [
      | inl f ↦ inr (at_first call e f)
      | inr ne ↦ inl (omega (arith, l, more_same call.branch e, ne))
    ]
    | inr ne ↦ inl (omega (arith, l, more_other call.branch ne))
  ]

  done_further : (call : Call) → call.index < get_or done call.branch 0 → call.index < get_or (one_more done b) call.branch 0
  done_further call l = elim (cases_eq b call.branch) [
    | inl e ↦ omega (arith, l, more_same call.branch e)
    | inr ne ↦ omega (arith, l, more_other call.branch ne)
  ]

  first_done : (call : Call) → IsAtFrom done (b ∷ w) 0 call → call.index < get_or (one_more done b) call.branch 0
  first_done call at = omega (arith, first_index call at, more_same call.branch (first_branch call at))

-- ---- there and back

not_true : (a : Bool) → not a ≡ true → a ≡ true → ⊥
not_true a h k = let q : not a ≡ false = ap not k in let r : true ≡ false = sym h ∙ q in cc

module _ (lengths : List ℕ) (p : Precedence) where
  to_kept : (done w : List ℕ) → IsAt lengths done → Completes lengths done w → IsInOrder (one_kept p) done w → IsKeptFrom done w p
  to_kept done [] at k h = λ j place. absurd (let e = place.0 in cc)
  to_kept done (b ∷ w) at k h = by (to_kept (one_more done b) w (IsAt-more lengths done b at left) (Completes-tail lengths done b inside w k) h.1)
    where
      left : get_or done b 0 < get_or lengths b 0
      left = Completes-head lengths done b w k

      inside : b < length done
      inside = IsAt-branch lengths done b at left

      earlier : (n d : ℕ) → (d ≤ n → ⊥) → n < d
      earlier n d ne = omega (arith, ne)

      by : IsKeptFrom (one_more done b) w p → (j : ℕ) → IsAtFrom done (b ∷ w) j p.later → (p.earlier.index < get_or done p.earlier.branch 0) ⊎ ((i : ℕ) × (i < j) × IsAtFrom done (b ∷ w) i p.earlier)
      by again zero place =
          let e = first_branch done b w inside p.later place in
          let f : p.later.index ≡ get_or done b 0 = first_index done b w inside p.later place ∙ ap (λ a. get_or done a 0) (sym e) in
          inl (earlier p.earlier.index (get_or done p.earlier.branch 0) (λ l. not_true (closes p done b) h.0 (to_close p done b (sym e) f l)))
      by again (suc j) place = elim (again j (nearer done b w inside j p.later place)) [
        | inl l ↦ elim (done_or_first done b w inside p.earlier l) [
          | inl before ↦ inl before
          | inr first ↦ inr (0, omega arith, first)
        ]
        | inr found ↦ inr (suc found.0, omega (arith, found.1), further done b w inside found.0 p.earlier found.2)
      ]

  from_kept : (done w : List ℕ) → IsAt lengths done → Completes lengths done w → IsKeptFrom done w p → IsInOrder (one_kept p) done w
  from_kept done [] at k kept = tt
  from_kept done (b ∷ w) at k kept = (
    opened (closes p done b) refl,
    from_kept (one_more done b) w (IsAt-more lengths done b at left) (Completes-tail lengths done b inside w k) rest,
  )
    where
      left : get_or done b 0 < get_or lengths b 0
      left = Completes-head lengths done b w k

      inside : b < length done
      inside = IsAt-branch lengths done b at left

      opened : (r : Bool) → closes p done b ≡ r → not (closes p done b) ≡ true
      opened false e = ap not e
      opened true e =
          let q = closing p done b e in
          let same : p.later.index ≡ get_or done p.later.branch 0 = q.1 ∙ ap (λ a. get_or done a 0) (sym q.0) in
          absurd (elim (kept 0 (at_first done b w inside p.later (sym q.0) same)) [
            | inl l ↦ omega (arith, l, q.2)
            | inr found ↦ omega (arith, found.1)
          ])

      rest : IsKeptFrom (one_more done b) w p
      rest j place = elim (kept (suc j) (further done b w inside j p.later place)) [
        | inl l ↦ inl (done_further done b w inside p.earlier l)
        | inr found ↦ by found.0 found.1 found.2
      ]
        where
          by : (i : ℕ) → i < suc j → IsAtFrom done (b ∷ w) i p.earlier
              → (p.earlier.index < get_or (one_more done b) p.earlier.branch 0) ⊎ ((i : ℕ) × (i < j) × IsAtFrom (one_more done b) w i p.earlier)
          by zero l first = inl (first_done done b w inside p.earlier first)
          by (suc i) l found = inr (i, omega (arith, l), nearer done b w inside i p.earlier found)

-- ---- from the start

zeros : (n b : ℕ) → ◌≡◌ {A = ℕ} (get_or (replicate n 0) b 0) 0
zeros zero b = refl
zeros (suc n) zero = refl
zeros (suc n) (suc b) = zeros n b

module _ (lengths : List ℕ) where
  to_place : (w : List ℕ) (i : ℕ) (call : Call) → IsAtFrom (none_done lengths) w i call → IsAtPlace w i call
  to_place w i call at = (at.0, omega (arith, at.1, zeros (length lengths) call.branch))

  from_place : (w : List ℕ) (i : ℕ) (call : Call) → IsAtPlace w i call → IsAtFrom (none_done lengths) w i call
  from_place w i call at = (at.0, omega (arith, at.1, zeros (length lengths) call.branch))

  kept_in : (w : List ℕ) (p : Precedence) → IsKeptFrom (none_done lengths) w p → IsKeptIn w p
  kept_in w p kept j place = elim (kept j (from_place w j p.later place)) [
    | inl l ↦ absurd (omega (arith, l, zeros (length lengths) p.earlier.branch))
    | inr found ↦ (found.0, found.1, to_place w found.0 p.earlier found.2)
  ]

  kept_from : (w : List ℕ) (p : Precedence) → IsKeptIn w p → IsKeptFrom (none_done lengths) w p
  kept_from w p kept j place = let found = kept j (to_place w j p.later place) in inr (found.0, found.1, from_place w found.0 p.earlier found.2)

pub keeping_is_before : KeepingIsBefore
keeping_is_before lengths ps word = (
  λ h. (h.0, λ k d l. kept_in lengths word (get_or ps k d) (to_kept lengths (get_or ps k d) (none_done lengths) word (IsAt-none lengths) (merge lengths word h.0) (each_kept ps k d l (none_done lengths) word h.1))),
  λ h. (h.0, all_kept ps (none_done lengths) word (λ k d l. from_kept lengths (get_or ps k d) (none_done lengths) word (IsAt-none lengths) (merge lengths word h.0) (kept_from lengths word (get_or ps k d) (h.1 k d l)))),
)
