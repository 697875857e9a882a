-- The line of the seats is a legal list of the core's events, and leaves the slots.
use Rattle.std.proofs.Common.{◌≡◌, ◌≢◌, ℕ, zero, suc, ◌+◌, ◌<◌, ◌≤◌, eq-eqb, Bool, cond, List, [], ◌∷◌, ◌++◌, length, set, refl, sym, ap, ◌∙◌, subst, arith, Option, Some, None, append-nil, append_assoc, length-append}
use Rattle.std.specs.Prelude.{slice_get, replicate}
use mathlib.Core.Logic.{dite}
use native.Mathlib.Decide.{ℕ_discrete}
use Rattle.pst_ledger.specs.declared.entry.Entry.{Entry}
use Rattle.pst_ledger.specs.Count.{times}
use Rattle.pst_ledger.specs.Seats.{SeatView, Rising, all_ends}
use Rattle.pst_ledger.specs.declared.book.Spot.{Spot}
use Rattle.pst_ledger.specs.declared.book.Spot.TheVariants.{Free, Holder, Ended}
use Rattle.pst_ledger.specs.Core.{one_later, Core, Event, claim, finish, Answer, accepted, refused, least_free, after_claim, after_finish, after, run, HoldsNone, IsLegal}
use Rattle.pst_ledger.specs.declared.ledger.LedgerFault.TheVariants.{NotYours}
use Rattle.pst_ledger.proofs.Totals.{one-other}
use Rattle.pst_ledger.specs.Line.{drawer, end_at, finish_if, at_number, numbers_from, spot_of, spots_from}

pub set-here : {A : Type 0} (xs ys : List A) (a b : A) → set (xs ++ a ∷ ys) (length xs) b ≡ xs ++ b ∷ ys
set-here [] ys a b = refl
set-here (x ∷ xs) ys a b = ap (λ l. x ∷ l) (set-here xs ys a b)

pub get-here : {A : Type 0} (xs ys : List A) (a : A) → slice_get (xs ++ a ∷ ys) (length xs) ≡ Some a
get-here [] ys a = refl
get-here (x ∷ xs) ys a = get-here xs ys a

rising-last : (low i : ℕ) (xs : List ℕ) → Rising low (xs ++ i ∷ []) → low ≤ i
rising-last low i [] h = h.0
rising-last low i (x ∷ xs) h = let r = rising-last (x + 1) i xs h.1 in omega (arith, r, h.0)

pub rising-below : (low i j : ℕ) (xs : List ℕ) → Rising low (xs ++ i ∷ []) → 0 < times j xs → j < i
rising-below low i j [] h p = absurd (omega arith)
rising-below low i j (x ∷ xs) h p = dite (ℕ_discrete j x)
    (λ (e : j ≡ x). let r = rising-last (x + 1) i xs h.1 in omega (arith, r))
    (λ ne. let o = one-other j x ne in rising-below (x + 1) i j xs h.1 (omega (arith, o)))

abbrev more : Option ℕ → Option ℕ
more o = elim o as (λ _. Option ℕ) [ None ↦ None | Some k ↦ Some (k + 1) ]

module _ {R : Type 0} where
  -- no number of the list is free
  abbrev pub Taken : List (Spot R) → Type 0
  Taken [] = Unit {0}
  Taken (Free ∷ xs) = ⊥
  Taken (Holder s ∷ xs) = Taken xs
  Taken (Ended s e ∷ xs) = Taken xs

  pub least-after : (xs ys : List (Spot R)) → Taken xs → least_free (xs ++ Free ∷ ys) ≡ Some (length xs)
  least-after [] ys h = refl
  least-after (Free ∷ xs) ys h = absurd h
  least-after (Holder s ∷ xs) ys h = ap one_later (least-after xs ys h) ∙ ap Some (let e : length xs + 1 ≡ suc (length xs) = omega arith in e)
  least-after (Ended s e ∷ xs) ys h = ap one_later (least-after xs ys h) ∙ ap Some (let e : length xs + 1 ≡ suc (length xs) = omega arith in e)

  pub least-none : (xs : List (Spot R)) → Taken xs → least_free xs ≡ None
  least-none [] h = refl
  least-none (Free ∷ xs) h = absurd h
  least-none (Holder s ∷ xs) h = ap one_later (least-none xs h)
  least-none (Ended s e ∷ xs) h = ap one_later (least-none xs h)

  pub taken-snoc : (xs : List (Spot R)) (s : ℕ) (o : Option (Entry R)) → Taken xs → Taken (xs ++ spot_of s o ∷ [])
  taken-snoc [] s None h = tt
  taken-snoc [] s (Some e) h = tt
  taken-snoc (Free ∷ xs) s o h = absurd h
  taken-snoc (Holder t ∷ xs) s o h = taken-snoc xs s o h
  taken-snoc (Ended t e ∷ xs) s o h = taken-snoc xs s o h

  holds-snoc : (s t : ℕ) (xs : List (Spot R)) (o : Option (Entry R)) → HoldsNone s xs → (o ≡ None → t ≢ s) → HoldsNone s (xs ++ spot_of t o ∷ [])
  holds-snoc s t [] None h ne = (ne refl, tt)
  holds-snoc s t [] (Some e) h ne = tt
  holds-snoc s t (Free ∷ xs) o h ne = holds-snoc s t xs o h ne
  holds-snoc s t (Holder u ∷ xs) o h ne = (h.0, holds-snoc s t xs o h.1 ne)
  holds-snoc s t (Ended u e ∷ xs) o h ne = holds-snoc s t xs o h ne

  abbrev pub frees : ℕ → List (Spot R) → List (Spot R)
  frees zero ys = ys
  frees (suc n) ys = Free ∷ frees n ys

  pub frees-all : (n m : ℕ) → frees n (replicate m Free) ≡ replicate (n + m) Free
  frees-all zero m = ap (λ (k : ℕ). replicate {A = Spot R} k Free) (let e : m ≡ 0 + m = omega arith in e)
  frees-all (suc n) m = ap (λ l. Free ∷ l) (frees-all n m) ∙ ap (λ (k : ℕ). replicate {A = Spot R} k Free) (let e : suc (n + m) ≡ suc n + m = omega arith in e)

  pub holds-free : (s n : ℕ) (xs : List (Spot R)) (m : ℕ) → HoldsNone s xs → HoldsNone s (xs ++ frees n (replicate m Free))
  holds-free s zero [] zero h = tt
  holds-free s zero [] (suc m) h = holds-free s zero [] m tt
  holds-free s (suc n) [] m h = holds-free s n [] m tt
  holds-free s n (Free ∷ xs) m h = holds-free s n xs m h
  holds-free s n (Holder t ∷ xs) m h = (h.0, holds-free s n xs m h.1)
  holds-free s n (Ended t e ∷ xs) m h = holds-free s n xs m h

  -- the claim of the next number, and its end
  pub claim-next : (xs ys : List (Spot R)) (s : ℕ) (rs : List Bool) → Taken xs → (after (record { spots = xs ++ Free ∷ ys; marks = rs }) (claim s)).0 ≡ record { spots = xs ++ Holder s ∷ ys; marks = rs }
  claim-next xs ys s rs h =
      let c : Core R = record { spots = xs ++ Free ∷ ys; marks = rs } in
      ap (λ (o : Option ℕ). (after_claim c s o).0) (least-after xs ys h)
      ∙ ap (λ (l : List (Spot R)). let d : Core R = record { spots = l; marks = rs } in d) (set-here xs ys Free (Holder s))

  end-next : (xs ys : List (Spot R)) (s : ℕ) (e : Entry R) (rs : List Bool) → (after (record { spots = xs ++ Holder s ∷ ys; marks = rs }) (finish s (length xs) e)).0 ≡ record { spots = xs ++ Ended s e ∷ ys; marks = rs }
  end-next xs ys s e rs =
      let c : Core R = record { spots = xs ++ Holder s ∷ ys; marks = rs } in
      let d : Core R = record { spots = set c.spots (length xs) (Ended s e); marks = rs } in
      ap (λ (o : Option (Spot R)). (after_finish c s (length xs) e o).0) (get-here xs ys (Holder s))
      ∙ (ap (λ (b : Bool). (cond {A = Core R × Answer} b (d, accepted) (c, refused NotYours)).0) (eq-eqb s s refl)
      ∙ ap (λ (l : List (Spot R)). let d : Core R = record { spots = l; marks = rs } in d) (set-here xs ys (Holder s) (Ended s e)))

  pub number-next : (xs ys : List (Spot R)) (s : ℕ) (o : Option (Entry R)) (rs : List Bool) → Taken xs
      → run (record { spots = xs ++ Free ∷ ys; marks = rs }) (claim s ∷ finish_if s (length xs) o) ≡ record { spots = (xs ++ spot_of s o ∷ []) ++ ys; marks = rs }
  number-next xs ys s None rs h = claim-next xs ys s rs h ∙ ap (λ (l : List (Spot R)). let d : Core R = record { spots = l; marks = rs } in d) (sym (append_assoc xs (Holder s ∷ []) ys))
  number-next xs ys s (Some e) rs h =
      ap (λ (c : Core R). (after c (finish s (length xs) e)).0) (claim-next xs ys s rs h)
      ∙ (end-next xs ys s e rs ∙ ap (λ (l : List (Spot R)). let d : Core R = record { spots = l; marks = rs } in d) (sym (append_assoc xs (Ended s e ∷ []) ys)))

  number-legal : (c : Core R) (s k : ℕ) (o : Option (Entry R)) → HoldsNone s c.spots → IsLegal c (claim s ∷ finish_if s k o)
  number-legal c s k None h = (h, tt)
  number-legal c s k (Some e) h = (h, tt)

  pub run-append : (c : Core R) (xs ys : List (Event R)) → run c (xs ++ ys) ≡ run (run c xs) ys
  run-append c [] ys = refl
  run-append c (x ∷ xs) ys = run-append (after c x).0 xs ys

  pub legal-append : (c : Core R) (xs ys : List (Event R)) → IsLegal c xs → IsLegal (run c xs) ys → IsLegal c (xs ++ ys)
  legal-append c [] ys h k = k
  legal-append c (claim s ∷ xs) ys h k = (h.0, legal-append (after c (claim s)).0 xs ys h.1 k)
  legal-append c (finish s n e ∷ xs) ys h k = legal-append (after c (finish s n e)).0 xs ys h k

  module _ (ts : List (SeatView R)) where
    abbrev pub end_of : ℕ → Option (Entry R)
    end_of k = end_at k (all_ends ts)

    -- a seat that holds a number draws no later one
    abbrev pub Apart : ℕ → ℕ → Type 0
    Apart n k = (i j : ℕ) → k ≤ i → i < j → j < k + n → end_of i ≡ None → drawer i ts ≢ drawer j ts

    pub run-numbers : (n k m : ℕ) (xs : List (Spot R)) (rs : List Bool) → Taken xs → length xs ≡ k
        → run (record { spots = xs ++ frees n (replicate m Free); marks = rs }) (numbers_from ts n k) ≡ record { spots = (xs ++ spots_from ts n k) ++ replicate m Free; marks = rs }
    run-numbers zero k m xs rs h long = ap (λ (l : List (Spot R)). let d : Core R = record { spots = l ++ replicate m Free; marks = rs } in d) (sym (append-nil xs))
    run-numbers (suc n) k m xs rs h long =
        let s : ℕ = drawer k ts in let o = end_of k in
        let c : Core R = record { spots = xs ++ frees (suc n) (replicate m Free); marks = rs } in
        let x = spot_of s o in
        run-append c (at_number ts k) (numbers_from ts n (suc k))
        ∙ (ap (λ (d : Core R). run d (numbers_from ts n (suc k)))
        (subst (λ (z : ℕ). run c (claim s ∷ finish_if s z o) ≡ record { spots = (xs ++ x ∷ []) ++ frees n (replicate m Free); marks = rs }) long (number-next xs (frees n (replicate m Free)) s o rs h))
        ∙ (run-numbers n (suc k) m (xs ++ x ∷ []) rs (taken-snoc xs s o h) (length-append xs (x ∷ []) ∙ omega arith)
        ∙ ap (λ (l : List (Spot R)). let d : Core R = record { spots = l ++ replicate m Free; marks = rs } in d) (append_assoc xs (x ∷ []) (spots_from ts n (suc k)))))

    pub legal-numbers : (n k m : ℕ) (xs : List (Spot R)) (rs : List Bool) → Taken xs → length xs ≡ k → Apart n k → ((j : ℕ) → k ≤ j → j < k + n → HoldsNone (drawer j ts) xs)
        → IsLegal (record { spots = xs ++ frees n (replicate m Free); marks = rs }) (numbers_from ts n k)
    legal-numbers zero k m xs rs h long apart none = tt
    legal-numbers (suc n) k m xs rs h long apart none =
        let s : ℕ = drawer k ts in let o = end_of k in
        let c : Core R = record { spots = xs ++ frees (suc n) (replicate m Free); marks = rs } in
        let x = spot_of s o in
        let next : run c (claim s ∷ finish_if s k o) ≡ record { spots = (xs ++ x ∷ []) ++ frees n (replicate m Free); marks = rs } =
        subst (λ (z : ℕ). run c (claim s ∷ finish_if s z o) ≡ record { spots = (xs ++ x ∷ []) ++ frees n (replicate m Free); marks = rs }) long (number-next xs (frees n (replicate m Free)) s o rs h) in
        legal-append c (at_number ts k) (numbers_from ts n (suc k)) (number-legal c s k o (holds-free s (suc n) xs m (none k (omega arith) (omega arith))))
        (subst (λ (d : Core R). IsLegal d (numbers_from ts n (suc k))) (sym next)
        (legal-numbers n (suc k) m (xs ++ x ∷ []) rs (taken-snoc xs s o h) (length-append xs (x ∷ []) ∙ omega arith)
        (λ i j a b d e. apart i j (omega arith) b (omega arith) e)
        (λ j a b. holds-snoc (drawer j ts) s xs o (none j (omega arith) (omega arith)) (λ e. apart k j (omega arith) (omega arith) (omega arith) e))))
