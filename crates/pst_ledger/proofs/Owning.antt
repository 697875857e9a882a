-- Each seat's own part of the line.
use Rattle.std.proofs.Common.{◌≡◌, ◌≢◌, ℕ, zero, suc, ◌+◌, ◌-◌, ◌<◌, ◌≤◌, eqb, eq-eqb, ne_eqb, Bool, true, false, cond, List, [], ◌∷◌, ◌++◌, length, refl, sym, ap, ◌∙◌, subst, arith, Option, Some, None, append-nil, length-append, set}
use Rattle.std.specs.Prelude.{slice_get, replicate}
use mathlib.Core.Logic.{dite}
use native.Mathlib.Decide.{ℕ_discrete, dec_le}
use Rattle.pst_ledger.specs.declared.entry.Entry.{Entry}
use Rattle.pst_ledger.specs.Count.{one_if, times, keys}
use Rattle.pst_ledger.specs.Seats.{SeatView, Rising, held_list, InOrder, AllInOrder, all_draws, all_ends, Shows, SomeMarked, Settles}
use Rattle.pst_ledger.specs.declared.book.Spot.{Spot}
use Rattle.pst_ledger.specs.declared.book.Spot.TheVariants.{Free, Holder, Ended}
use Rattle.pst_ledger.specs.Core.{Core, Event, claim, finish, Answer, granted, none_left, accepted, refused, after_claim, after_finish, after, run, opening_core}
use Rattle.pst_ledger.specs.declared.ledger.LedgerFault.TheVariants.{NotYours}
use Rattle.pst_ledger.specs.Line.{past_if, drawer, end_at, finish_if, at_number, numbers_from, empty_claims, line, spot_of, spots_from, answered, seat_of, part_of, ends_part, held_part, mark_part, own_part, KeepsOrder}
use Rattle.pst_ledger.proofs.Totals.{one-same, one-other, times-append, keys-append}
use Rattle.pst_ledger.proofs.Seats.{held_list-times}
use Rattle.pst_ledger.proofs.Lines.{Taken, get-here, least-after, least-none, taken-snoc, frees, frees-all, claim-next, number-next, run-numbers}
use Rattle.pst_ledger.proofs.Parts.{some_same, drawer-drew, end-none, spots-taken, falses, falses-all, shows-at}

none_some : {A : Type 0} (x : A) → None ≡ Some x → ⊥
none_some x e = cc

rising-absent : (low k : ℕ) (xs : List ℕ) → Rising low xs → k < low → times k xs ≡ 0
rising-absent low k [] h lt = refl
rising-absent low k (x ∷ xs) h lt =
    let a = h.0 in
    let o = one-other k x (λ e. omega arith) in
    let r = rising-absent (x + 1) k xs h.1 (omega arith) in
    omega (arith, o, r)

rising-later : (k : ℕ) (xs : List ℕ) → Rising k xs → times k xs ≡ 0 → Rising (suc k) xs
rising-later k [] h z = tt
rising-later k (x ∷ xs) h z = dite (ℕ_discrete k x)
    (λ (e : k ≡ x). let o : one_if (eqb k x) ≡ 1 = subst (λ (y : ℕ). one_if (eqb k y) ≡ 1) e (one-same k) in absurd (omega (arith, o)))
    (λ ne. let a = h.0 in ((let le : suc k ≤ x = omega arith in le), h.1))

abbrev Answered : Type 0 → Type 0
Answered R = Event R × Answer

module _ {R : Type 0} where
  answered-append : (c : Core R) (xs ys : List (Event R)) → answered c (xs ++ ys) ≡ answered c xs ++ answered (run c xs) ys
  answered-append c [] ys = refl
  answered-append c (x ∷ xs) ys = ap (λ (l : List (Answered R)). (x, (after c x).1) ∷ l) (answered-append (after c x).0 xs ys)

  part-append : (i : ℕ) (xs ys : List (Answered R)) → part_of i (xs ++ ys) ≡ part_of i xs ++ part_of i ys
  part-append i [] ys = refl
  part-append i (x ∷ xs) ys = go (eqb i (seat_of x.0)) (part-append i xs ys)
    where
      go : (b : Bool) → part_of i (xs ++ ys) ≡ part_of i xs ++ part_of i ys → cond b (x ∷ part_of i (xs ++ ys)) (part_of i (xs ++ ys)) ≡ cond b (x ∷ part_of i xs) (part_of i xs) ++ part_of i ys
      go true h = ap (λ (l : List (Answered R)). x ∷ l) h
      go false h = h

  abbrev end_part : ℕ → ℕ → Option (Entry R) → List (Answered R)
  end_part s k None = []
  end_part s k (Some e) = (finish s k e, accepted) ∷ []

  abbrev number_part : ℕ → ℕ → Option (Entry R) → List (Answered R)
  number_part s k o = (claim s, granted k) ∷ end_part s k o

  part-mine : (i k : ℕ) (o : Option (Entry R)) → part_of i (number_part i k o) ≡ number_part i k o
  part-mine i k None = let x : Answered R = (claim i, granted k) in ap (λ (b : Bool). cond {A = List (Answered R)} b (x ∷ []) []) (eq-eqb i i refl)
  part-mine i k (Some e) =
      let x : Answered R = (claim i, granted k) in let y : Answered R = (finish i k e, accepted) in
      ap (λ (b : Bool). cond {A = List (Answered R)} b (x ∷ cond {A = List (Answered R)} b (y ∷ []) []) (cond {A = List (Answered R)} b (y ∷ []) [])) (eq-eqb i i refl)

  part-other : (i s k : ℕ) (o : Option (Entry R)) → i ≢ s → part_of i (number_part s k o) ≡ []
  part-other i s k None ne = let x : Answered R = (claim s, granted k) in ap (λ (b : Bool). cond {A = List (Answered R)} b (x ∷ []) []) (ne_eqb i s ne)
  part-other i s k (Some e) ne =
      let x : Answered R = (claim s, granted k) in let y : Answered R = (finish s k e, accepted) in
      ap (λ (b : Bool). cond {A = List (Answered R)} b (x ∷ cond {A = List (Answered R)} b (y ∷ []) []) (cond {A = List (Answered R)} b (y ∷ []) [])) (ne_eqb i s ne)

  -- the answers to the claim of the next number and to its end
  answers-next : (xs ys : List (Spot R)) (s : ℕ) (o : Option (Entry R)) (rs : List Bool) → Taken xs
      → answered (record { spots = xs ++ Free ∷ ys; marks = rs }) (claim s ∷ finish_if s (length xs) o) ≡ number_part s (length xs) o
  answers-next xs ys s None rs h =
      let c : Core R = record { spots = xs ++ Free ∷ ys; marks = rs } in
      ap (λ (q : Option ℕ). let x : Answered R = (claim s, (after_claim c s q).1) in x ∷ []) (least-after xs ys h)
  answers-next xs ys s (Some e) rs h =
      let k : ℕ = length xs in
      let c : Core R = record { spots = xs ++ Free ∷ ys; marks = rs } in
      let d : Core R = record { spots = xs ++ Holder s ∷ ys; marks = rs } in
      let u : Core R = record { spots = set d.spots k (Ended s e); marks = rs } in
      let x : Answered R = (claim s, granted k) in
      ap (λ (b : Core R). let z : Answered R = (claim s, (after c (claim s)).1) in let y : Answered R = (finish s k e, (after b (finish s k e)).1) in z ∷ y ∷ []) (claim-next xs ys s rs h)
      ∙ (ap (λ (q : Option ℕ). let z : Answered R = (claim s, (after_claim c s q).1) in let y : Answered R = (finish s k e, (after d (finish s k e)).1) in z ∷ y ∷ []) (least-after xs ys h)
      ∙ (ap (λ (q : Option (Spot R)). let y : Answered R = (finish s k e, (after_finish d s k e q).1) in x ∷ y ∷ []) (get-here xs ys (Holder s))
      ∙ ap (λ (b : Bool). let y : Answered R = (finish s k e, (cond {A = Core R × Answer} b (u, accepted) (d, refused NotYours)).1) in x ∷ y ∷ []) (eq-eqb s s refl)))

  abbrev answered_empty_claims : ℕ → List (SeatView R) → List (Answered R)
  answered_empty_claims i [] = []
  answered_empty_claims i (t ∷ us) = mark_part i t.marked ++ answered_empty_claims (suc i) us

  empty_claims-answered : (i : ℕ) (us : List (SeatView R)) (xs : List (Spot R)) (ms : List Bool) → (SomeMarked us → Taken xs) → answered (record { spots = xs; marks = ms }) (empty_claims i us) ≡ answered_empty_claims i us
  empty_claims-answered i [] xs ms h = refl
  empty_claims-answered i (t ∷ us) xs ms h = go t.marked h (λ q ss. empty_claims-answered (suc i) us xs ss q)
    where
      go : (b : Bool) → (elim b as (λ _. Type 0) [ true ↦ Unit {0} | false ↦ SomeMarked us ] → Taken xs)
          → ((SomeMarked us → Taken xs) → (ss : List Bool) → answered (record { spots = xs; marks = ss }) (empty_claims (suc i) us) ≡ answered_empty_claims (suc i) us)
          → answered (record { spots = xs; marks = ms }) (cond b (claim i ∷ []) [] ++ empty_claims (suc i) us) ≡ mark_part i b ++ answered_empty_claims (suc i) us
      go true h again =
          let c : Core R = record { spots = xs; marks = ms } in
          ap (λ (o : Option ℕ). let x : Answered R = (claim i, (after_claim c i o).1) in x ∷ answered (after_claim c i o).0 (empty_claims (suc i) us)) (least-none xs (h tt))
          ∙ ap (λ (l : List (Answered R)). let x : Answered R = (claim i, none_left) in x ∷ l) (again (λ _. h tt) (set ms i true))
      go false h again = again h ms

  mark-mine : (i : ℕ) (b : Bool) → part_of {R = R} i (mark_part i b) ≡ mark_part i b
  mark-mine i true = let x : Answered R = (claim i, none_left) in ap (λ (b : Bool). cond {A = List (Answered R)} b (x ∷ []) []) (eq-eqb i i refl)
  mark-mine i false = refl

  mark-other : (i j : ℕ) (b : Bool) → i ≢ j → part_of {R = R} i (mark_part j b) ≡ []
  mark-other i j true ne = let x : Answered R = (claim j, none_left) in ap (λ (b : Bool). cond {A = List (Answered R)} b (x ∷ []) []) (ne_eqb i j ne)
  mark-other i j false ne = refl

  before-empty_claims : (i j : ℕ) (us : List (SeatView R)) → i < j → part_of i (answered_empty_claims j us) ≡ []
  before-empty_claims i j [] lt = refl
  before-empty_claims i j (t ∷ us) lt =
      part-append i (mark_part j t.marked) (answered_empty_claims (suc j) us)
      ∙ (ap (λ (l : List (Answered R)). l ++ part_of i (answered_empty_claims (suc j) us)) (mark-other i j t.marked (λ e. omega arith)) ∙ before-empty_claims i (suc j) us (omega arith))

  at-empty_claims : (i j d : ℕ) (us : List (SeatView R)) (t : SeatView R) → i ≡ j + d → slice_get us d ≡ Some t → part_of i (answered_empty_claims j us) ≡ mark_part i t.marked
  at-empty_claims i j d [] t q e = absurd (none_some t e)
  at-empty_claims i j zero (u ∷ us) t q e =
      let same : j ≡ i = omega arith in
      part-append i (mark_part j u.marked) (answered_empty_claims (suc j) us)
      ∙ (ap (λ (l : List (Answered R)). part_of i (mark_part j u.marked) ++ l) (before-empty_claims i (suc j) us (omega arith))
      ∙ (append-nil (part_of i (mark_part j u.marked))
      ∙ (ap (λ (z : ℕ). part_of i (mark_part z u.marked)) same ∙ (mark-mine i u.marked ∙ ap (λ (v : SeatView R). mark_part i v.marked) (some_same u t e)))))
  at-empty_claims i j (suc d) (u ∷ us) t q e =
      part-append i (mark_part j u.marked) (answered_empty_claims (suc j) us)
      ∙ (ap (λ (l : List (Answered R)). l ++ part_of i (answered_empty_claims (suc j) us)) (mark-other i j u.marked (λ p. omega arith)) ∙ at-empty_claims i (suc j) d us t (omega arith) e)

  draws-at : (k : ℕ) (ts : List (SeatView R)) (i : ℕ) (t : SeatView R) → slice_get ts i ≡ Some t → times k t.draws ≤ times k (all_draws ts)
  draws-at k [] i t e = absurd (none_some t e)
  draws-at k (u ∷ us) zero t e = let a = times-append k u.draws (all_draws us) in let b = ap (λ (v : SeatView R). times k v.draws) (some_same u t e) in omega (arith, a, b)
  draws-at k (u ∷ us) (suc i) t e = let a = times-append k u.draws (all_draws us) in let b = draws-at k us i t e in omega (arith, a, b)

  -- a number that is drawn once was drawn by the seat that has it
  drawer-is : (k : ℕ) (ts : List (SeatView R)) (i : ℕ) (t : SeatView R) → slice_get ts i ≡ Some t → 0 < times k t.draws → times k (all_draws ts) ≡ 1 → drawer k ts ≡ i
  drawer-is k [] i t e p one = absurd (none_some t e)
  drawer-is k (u ∷ us) zero t e p one = go (times k u.draws) (ap (λ (v : SeatView R). times k v.draws) (some_same u t e))
    where
      go : (n : ℕ) → n ≡ times k t.draws → past_if n (drawer k us) ≡ 0
      go zero q = absurd (omega arith)
      go (suc n) q = refl
  drawer-is k (u ∷ us) (suc i) t e p one =
      let a = times-append k u.draws (all_draws us) in
      let b = draws-at k us i t e in
      let none : times k u.draws ≡ 0 = omega (arith, a, b) in
      ap (λ (n : ℕ). past_if n (drawer k us)) none ∙ ap suc (drawer-is k us i t e p (omega (arith, a, b)))

  ends-at : (k : ℕ) (ts : List (SeatView R)) (i : ℕ) (t : SeatView R) → slice_get ts i ≡ Some t → times k (keys t.ends) ≤ times k (keys (all_ends ts))
  ends-at k [] i t e = absurd (none_some t e)
  ends-at k (u ∷ us) zero t e =
      let a = ap (times k) (keys-append u.ends (all_ends us)) in let b = times-append k (keys u.ends) (keys (all_ends us)) in
      let c = ap (λ (v : SeatView R). times k (keys v.ends)) (some_same u t e) in omega (arith, a, b, c)
  ends-at k (u ∷ us) (suc i) t e =
      let a = ap (times k) (keys-append u.ends (all_ends us)) in let b = times-append k (keys u.ends) (keys (all_ends us)) in
      let c = ends-at k us i t e in omega (arith, a, b, c)

  ends-drawn : (k : ℕ) (ts : List (SeatView R)) → AllInOrder ts → times k (keys (all_ends ts)) ≤ times k (all_draws ts)
  ends-drawn k [] o = omega arith
  ends-drawn k (u ∷ us) o =
      let a = ap (times k) (keys-append u.ends (all_ends us)) in let b = times-append k (keys u.ends) (keys (all_ends us)) in
      let c = times-append k u.draws (all_draws us) in
      let d = ap (times k) o.0.0 in let f = times-append k (keys u.ends) (held_list u.held) in
      let r = ends-drawn k us o.1 in omega (arith, a, b, c, d, f, r)

  -- a number that a seat holds was drawn once more than it was ended
  held-open : (k : ℕ) (ts : List (SeatView R)) (i : ℕ) (t : SeatView R) → AllInOrder ts → slice_get ts i ≡ Some t → t.held ≡ Some k → times k (keys (all_ends ts)) + 1 ≤ times k (all_draws ts)
  held-open k [] i t o e h = absurd (none_some t e)
  held-open k (u ∷ us) zero t o e h =
      let a = ap (times k) (keys-append u.ends (all_ends us)) in let b = times-append k (keys u.ends) (keys (all_ends us)) in
      let c = times-append k u.draws (all_draws us) in
      let d = ap (times k) o.0.0 in let f = times-append k (keys u.ends) (held_list u.held) in
      let one = ap (λ (x : Option ℕ). times k (held_list x)) (ap (λ (v : SeatView R). v.held) (some_same u t e) ∙ h) in
      let g = held_list-times k in
      let r = ends-drawn k us o.1 in omega (arith, a, b, c, d, f, one, g, r)
  held-open k (u ∷ us) (suc i) t o e h =
      let a = ap (times k) (keys-append u.ends (all_ends us)) in let b = times-append k (keys u.ends) (keys (all_ends us)) in
      let c = times-append k u.draws (all_draws us) in
      let d = ap (times k) o.0.0 in let f = times-append k (keys u.ends) (held_list u.held) in
      let r = held-open k us i t o.1 e h in omega (arith, a, b, c, d, f, r)

  end-absent : (k : ℕ) (l : List (ℕ × Entry R)) → times k (keys l) ≡ 0 → end_at k l ≡ None
  end-absent k [] z = refl
  end-absent k (x ∷ l) z = dite (ℕ_discrete k x.0)
      (λ (q : k ≡ x.0). let o : one_if (eqb k x.0) ≡ 1 = subst (λ (y : ℕ). one_if (eqb k y) ≡ 1) q (one-same k) in absurd (omega (arith, o)))
      (λ ne. ap (λ (b : Bool). cond b (Some x.1) (end_at k l)) (ne_eqb k x.0 ne) ∙ end-absent k l (let o = one-other k x.0 ne in omega (arith, o)))

  -- an end of a number is what its slot shows
  end-is : (slots : List (Entry R)) (l : List (ℕ × Entry R)) (k : ℕ) (e : Entry R) → Shows slots l → slice_get slots k ≡ Some e → 0 < times k (keys l) → end_at k l ≡ Some e
  end-is slots l k e h at p = go (end_at k l) refl
    where
      go : (o : Option (Entry R)) → end_at k l ≡ o → o ≡ Some e
      go None q = let z = end-none k l q in absurd (omega (arith, z))
      go (Some x) q = sym (shows-at slots l k x h q) ∙ at

  shows-front : (slots : List (Entry R)) (l m : List (ℕ × Entry R)) → Shows slots (l ++ m) → Shows slots l
  shows-front slots [] m h = tt
  shows-front slots (x ∷ l) m h = (h.0, shows-front slots l m h.1)

  shows-back : (slots : List (Entry R)) (l m : List (ℕ × Entry R)) → Shows slots (l ++ m) → Shows slots m
  shows-back slots [] m h = h
  shows-back slots (x ∷ l) m h = shows-back slots l m h.1

  pub shows-seat : (slots : List (Entry R)) (ts : List (SeatView R)) (i : ℕ) (t : SeatView R) → Shows slots (all_ends ts) → slice_get ts i ≡ Some t → Shows slots t.ends
  shows-seat slots [] i t h e = absurd (none_some t e)
  shows-seat slots (u ∷ us) zero t h e = subst (λ (v : SeatView R). Shows slots v.ends) (some_same u t e) (shows-front slots u.ends (all_ends us) h)
  shows-seat slots (u ∷ us) (suc i) t h e = shows-seat slots us i t (shows-back slots u.ends (all_ends us) h) e

  module _ (ts : List (SeatView R)) where
    abbrev end_of : ℕ → Option (Entry R)
    end_of k = end_at k (all_ends ts)

    abbrev answered_from : ℕ → ℕ → List (Answered R)
    answered_from zero k = []
    answered_from (suc n) k = number_part (drawer k ts) k (end_of k) ++ answered_from n (suc k)

    numbers-answered : (n k m : ℕ) (xs : List (Spot R)) (rs : List Bool) → Taken xs → length xs ≡ k
        → answered (record { spots = xs ++ frees n (replicate m Free); marks = rs }) (numbers_from ts n k) ≡ answered_from n k
    numbers-answered zero k m xs rs h long = refl
    numbers-answered (suc n) k m xs rs h long =
        let s : ℕ = drawer k ts in let o = end_of k in
        let ys = frees n (replicate m Free) in
        let c : Core R = record { spots = xs ++ frees (suc n) (replicate m Free); marks = rs } in
        let x = spot_of s o in
        let next : run c (at_number ts k) ≡ record { spots = (xs ++ x ∷ []) ++ ys; marks = rs } =
        subst (λ (z : ℕ). run c (claim s ∷ finish_if s z o) ≡ record { spots = (xs ++ x ∷ []) ++ ys; marks = rs }) long (number-next xs ys s o rs h) in
        let here : answered c (at_number ts k) ≡ number_part s k o = subst (λ (z : ℕ). answered c (claim s ∷ finish_if s z o) ≡ number_part s z o) long (answers-next xs ys s o rs h) in
        answered-append c (at_number ts k) (numbers_from ts n (suc k))
        ∙ (ap (λ (l : List (Answered R)). l ++ answered (run c (at_number ts k)) (numbers_from ts n (suc k))) here
        ∙ ap (λ (l : List (Answered R)). number_part s k o ++ l) (ap (λ (d : Core R). answered d (numbers_from ts n (suc k))) next
        ∙ numbers-answered n (suc k) m (xs ++ x ∷ []) rs (taken-snoc xs s o h) (length-append xs (x ∷ []) ∙ omega arith)))

    -- what a seat that drew these numbers saw
    abbrev drawn_part : ℕ → List ℕ → List (Answered R)
    drawn_part i [] = []
    drawn_part i (k ∷ ks) = number_part i k (end_of k) ++ drawn_part i ks

    module _ (count i : ℕ) (t : SeatView R) (once : (k : ℕ) → k < count → times k (all_draws ts) ≡ 1) (at : slice_get ts i ≡ Some t) where
      mine : (k : ℕ) → k < count → drawer k ts ≡ i → 0 < times k t.draws
      mine k lt e =
          let x = drawer-drew k ts (let o = once k lt in omega (arith, o)) in
          let same : x.0 ≡ t = some_same x.0 t (sym x.1 ∙ (ap (slice_get ts) e ∙ at)) in
          subst (λ (v : SeatView R). 0 < times k v.draws) same x.2

      numbers-part : (n k : ℕ) (l : List ℕ) → k + n ≡ count → Rising k l → ((x : ℕ) → k ≤ x → times x l ≡ times x t.draws) → ((x : ℕ) → count ≤ x → times x t.draws ≡ 0)
          → part_of i (answered_from n k) ≡ drawn_part i l
      numbers-part zero k [] sum h same never = refl
      numbers-part zero k (x ∷ l) sum h same never =
          let a = h.0 in let b = same x a in let c = never x (omega arith) in let o = one-same x in absurd (omega (arith, b, c, o))
      numbers-part (suc n) k l sum h same never = dite (ℕ_discrete (drawer k ts) i)
          (λ (e : drawer k ts ≡ i). here (λ m r q. numbers-part n (suc k) m (omega arith) r q never) l h same e (let p = mine k (omega arith) e in let q = same k (omega arith) in omega (arith, p, q)))
          (λ ne.
          let no : times k l ≡ 0 = dite (ℕ_discrete (times k l) 0) (λ (z : times k l ≡ 0). z)
          (λ nz. let q = same k (omega arith) in absurd (ne (drawer-is k ts i t at (omega (arith, q)) (once k (omega arith))))) in
          part-append i (number_part (drawer k ts) k (end_of k)) (answered_from n (suc k))
          ∙ (ap (λ (m : List (Answered R)). m ++ part_of i (answered_from n (suc k))) (part-other i (drawer k ts) k (end_of k) (λ q. ne (sym q)))
          ∙ numbers-part n (suc k) l (omega arith) (rising-later k l h no) (λ x le. same x (omega arith)) never))
        where
          here : ((m : List ℕ) → Rising (suc k) m → ((x : ℕ) → suc k ≤ x → times x m ≡ times x t.draws) → part_of i (answered_from n (suc k)) ≡ drawn_part i m)
              → (l : List ℕ) → Rising k l → ((x : ℕ) → k ≤ x → times x l ≡ times x t.draws) → drawer k ts ≡ i → 0 < times k l → part_of i (answered_from (suc n) k) ≡ drawn_part i l
          here again [] h same e p = absurd (omega arith)
          here again (y ∷ l) h same e p = dite (ℕ_discrete k y)
              (λ (q : k ≡ y).
              let rise : Rising (suc k) l = subst (λ (z : ℕ). Rising z l) (let z : y + 1 ≡ suc k = omega arith in z) h.1 in
              let rest = again l rise (λ x le. let s = same x (omega arith) in let o = one-other x y (λ r. omega arith) in omega (arith, s, o)) in
              part-append i (number_part (drawer k ts) k (end_of k)) (answered_from n (suc k))
              ∙ (ap (λ (d : ℕ). part_of i (number_part d k (end_of k)) ++ part_of i (answered_from n (suc k))) e
              ∙ (ap (λ (m : List (Answered R)). m ++ part_of i (answered_from n (suc k))) (part-mine i k (end_of k))
              ∙ (ap (λ (m : List (Answered R)). number_part i k (end_of k) ++ m) rest
              ∙ ap (λ (z : ℕ). number_part i z (end_of z) ++ drawn_part i l) q))))
              (λ ne. let a = h.0 in let o = one-other k y ne in let z = rising-absent (y + 1) k l h.1 (omega arith) in absurd (omega (arith, o, z)))

      drawn-part : (slots : List (Entry R)) (es : List (ℕ × Entry R)) (h : Option ℕ) → Shows slots (all_ends ts) → Shows slots es → ((k : ℕ) → times k (keys es) ≤ times k (keys (all_ends ts)))
          → ((k : ℕ) → h ≡ Some k → end_of k ≡ None) → drawn_part i (keys es ++ held_list h) ≡ ends_part i es ++ held_part i h
      drawn-part slots [] None all own le none = refl
      drawn-part slots [] (Some k) all own le none = ap (λ (o : Option (Entry R)). number_part i k o ++ []) (none k refl)
      drawn-part slots (x ∷ es) h all own le none =
          let o = one-same x.0 in
          let end : end_of x.0 ≡ Some x.1 = end-is slots (all_ends ts) x.0 x.1 all own.0 (let a = le x.0 in omega (arith, a, o)) in
          ap (λ (q : Option (Entry R)). number_part i x.0 q ++ drawn_part i (keys es ++ held_list h)) end
          ∙ ap (λ (m : List (Answered R)). number_part i x.0 (Some x.1) ++ m) (drawn-part slots es h all own.1 (λ k. let a = le k in omega (arith, a)) none)

  pub in_order-at : (ts : List (SeatView R)) (i : ℕ) (t : SeatView R) → AllInOrder ts → slice_get ts i ≡ Some t → InOrder t
  in_order-at [] i t o e = absurd (none_some t e)
  in_order-at (u ∷ us) zero t o e = subst InOrder (some_same u t e) o.0
  in_order-at (u ∷ us) (suc i) t o e = in_order-at us i t o.1 e

  pub keeps_order : (count trials : ℕ) (ts : List (SeatView R)) (slots : List (Entry R)) → Settles count trials ts slots → KeepsOrder count trials ts
  keeps_order count trials ts slots h i t at =
      let m : ℕ = trials - count in
      let sum : count + m ≡ trials = let w = h.within in omega (arith, w) in
      let start : replicate {A = Spot R} trials Free ≡ frees count (replicate m Free) = ap (λ (k : ℕ). replicate {A = Spot R} k Free) (sym sum) ∙ sym (frees-all count m) in
      let opened : Core R = record { spots = frees count (replicate m Free); marks = falses ts } in
      let is_opened : opening_core trials (length ts) ≡ opened = λ j. record { spots = start j; marks = falses-all ts j } in
      let end : List (Spot R) = spots_from ts count 0 ++ replicate m Free in
      let after_numbers : run opened (numbers_from ts count 0) ≡ record { spots = end; marks = falses ts } = run-numbers ts count 0 m [] (falses ts) tt refl in
      let taken : SomeMarked ts → Taken end = λ s. subst (λ (k : ℕ). Taken (spots_from ts count 0 ++ replicate k Free)) (let f = h.full s in let z : 0 ≡ m = omega (arith, f) in z)
      (subst Taken (sym (append-nil (spots_from ts count 0))) (spots-taken ts count 0)) in
      let replied : answered opened (line count ts) ≡ answered_from ts count 0 ++ answered_empty_claims 0 ts =
      answered-append opened (numbers_from ts count 0) (empty_claims 0 ts)
      ∙ (ap (λ (l : List (Answered R)). l ++ answered (run opened (numbers_from ts count 0)) (empty_claims 0 ts)) (numbers-answered ts count 0 m [] (falses ts) tt refl)
      ∙ ap (λ (l : List (Answered R)). answered_from ts count 0 ++ l) (ap (λ (d : Core R). answered d (empty_claims 0 ts)) after_numbers ∙ empty_claims-answered 0 ts end (falses ts) taken)) in
      let o = in_order-at ts i t h.in_order at in
      let none : (k : ℕ) → t.held ≡ Some k → end_at k (all_ends ts) ≡ None = λ k held. end-absent k (all_ends ts) (
      let a = held-open k ts i t h.in_order at held in
      dite (ℕ_discrete (times k (all_draws ts)) 1) (λ (e : times k (all_draws ts) ≡ 1). omega (arith, a))
      (λ ne. absurd (never_or_one k ne (omega (arith, a))))) in
      let numbers : part_of i (answered_from ts count 0) ≡ ends_part i t.ends ++ held_part i t.held =
      numbers-part ts count i t h.once at count 0 t.draws (omega arith) o.1 (λ x le. refl) (λ x le. let a = draws-at x ts i t at in let b = h.never x le in omega (arith, a, b))
      ∙ (ap (drawn_part ts i) o.0
      ∙ drawn-part ts count i t h.once at slots t.ends t.held h.ended (shows-seat slots ts i t h.ended at) (λ k. ends-at k ts i t at) none) in
      subst (λ (d : Core R). part_of i (answered d (line count ts)) ≡ own_part i t) (sym is_opened)
      (ap (part_of i) replied ∙ (part-append i (answered_from ts count 0) (answered_empty_claims 0 ts)
      ∙ (ap (λ (l : List (Answered R)). l ++ part_of i (answered_empty_claims 0 ts)) numbers
      ∙ ap (λ (l : List (Answered R)). (ends_part i t.ends ++ held_part i t.held) ++ l) (at-empty_claims i 0 i ts t (let z : i ≡ 0 + i = omega arith in z) at))))
    where
      never_or_one : (k : ℕ) → times k (all_draws ts) ≢ 1 → 0 < times k (all_draws ts) → ⊥
      never_or_one k ne p = dite (dec_le count k)
          (λ (le : count ≤ k). let z = h.never k le in omega (arith, z))
          (λ gt. ne (h.once k (omega arith)))
