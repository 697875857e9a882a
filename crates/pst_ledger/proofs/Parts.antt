-- Who drew a number, and the line of the seats.
use Rattle.std.proofs.Common.{◌≡◌, ◌≢◌, ℕ, zero, suc, ◌+◌, ◌-◌, ◌<◌, ◌≤◌, eq-eqb, ne_eqb, Bool, true, false, cond, List, [], ◌∷◌, ◌++◌, length, refl, sym, ap, ◌∙◌, subst, arith, Option, Some, None, append-nil, append_assoc, length-append, map, drop, set}
use Rattle.std.specs.Prelude.{slice_get, replicate}
use mathlib.Core.Logic.{dite}
use native.Mathlib.Decide.{ℕ_discrete}
use Rattle.pst_ledger.specs.declared.entry.Entry.{Entry}
use Rattle.pst_ledger.specs.declared.entry.Entry.TheVariants.{Undrawn}
use Rattle.pst_ledger.specs.Count.{times, keys}
use Rattle.pst_ledger.specs.Seats.{SeatView, Rising, held_list, InOrder, AllInOrder, all_draws, all_ends, Shows, SomeMarked, Settles}
use Rattle.pst_ledger.specs.declared.book.Spot.{Spot}
use Rattle.pst_ledger.specs.declared.book.Spot.TheVariants.{Free}
use Rattle.pst_ledger.specs.Core.{Core, claim, after_claim, run, HoldsNone, IsLegal, opening_core, shown}
use Rattle.pst_ledger.specs.Line.{past_if, drawer, end_at, numbers_from, empty_claims, line, spot_of, spots_from, IsLine}
use Rattle.pst_ledger.proofs.Totals.{one-other, times-append, keys-append}
use Rattle.pst_ledger.proofs.Lines.{rising-below, Taken, least-none, frees-all, holds-free, run-append, legal-append, Apart, run-numbers, legal-numbers, frees, set-here}

pub some_same : {A : Type 0} (x y : A) → Some x ≡ Some y → x ≡ y
some_same x y e = cc

held-is : (k : ℕ) (h : Option ℕ) → 0 < times k (held_list h) → h ≡ Some k
held-is k None p = absurd (omega arith)
held-is k (Some j) p = dite (ℕ_discrete j k) (λ (e : j ≡ k). ap Some e) (λ ne. let o = one-other k j (λ e. ne (sym e)) in absurd (omega (arith, o)))

drop-get : {A : Type 0} (xs : List A) (k : ℕ) (x : A) → slice_get xs k ≡ Some x → drop k xs ≡ x ∷ drop (suc k) xs
drop-get [] k x e = absurd (none_some x e)
  where
    none_some : {A : Type 0} (x : A) → None ≡ Some x → ⊥
    none_some x e = cc
drop-get (y ∷ xs) zero x e = ap (λ z. z ∷ xs) (some_same y x e)
drop-get (y ∷ xs) (suc k) x e = drop-get xs k x e

drop-all : {A : Type 0} (xs : List A) (k : ℕ) → k ≡ length xs → drop k xs ≡ []
drop-all [] zero e = refl
drop-all [] (suc k) e = refl
drop-all (x ∷ xs) zero e = absurd (omega arith)
drop-all (x ∷ xs) (suc k) e = drop-all xs k (omega arith)

module _ {R : Type 0} where
  abbrev pub Drew : List (SeatView R) → ℕ → ℕ → Type 0
  Drew ts s k = (t : SeatView R) × (slice_get ts s ≡ Some t) × (0 < times k t.draws)

  pub drawer-drew : (k : ℕ) (ts : List (SeatView R)) → 0 < times k (all_draws ts) → Drew ts (drawer k ts) k
  drawer-drew k [] p = absurd (omega arith)
  drawer-drew k (t ∷ ts) p = go (drawer-drew k ts) (times k t.draws) refl
    where
      go : (0 < times k (all_draws ts) → Drew ts (drawer k ts) k) → (n : ℕ) → times k t.draws ≡ n → Drew (t ∷ ts) (past_if n (drawer k ts)) k
      go again zero e = again (let a = times-append k t.draws (all_draws ts) in omega (arith, a, e, p))
      go again (suc n) e = (t, refl, omega (arith, e))

  in_order-at : (ts : List (SeatView R)) (s : ℕ) (t : SeatView R) → AllInOrder ts → slice_get ts s ≡ Some t → InOrder t
  in_order-at [] s t o e = absurd (no e)
    where
      no : None ≡ Some t → ⊥
      no e = cc
  in_order-at (u ∷ ts) zero t o e = subst InOrder (some_same u t e) o.0
  in_order-at (u ∷ ts) (suc s) t o e = in_order-at ts s t o.1 e

  pub end-none : (k : ℕ) (l : List (ℕ × Entry R)) → end_at k l ≡ None → times k (keys l) ≡ 0
  end-none k [] e = refl
  end-none k (x ∷ l) e = dite (ℕ_discrete k x.0)
      (λ (q : k ≡ x.0). absurd (no (sym (ap (λ (b : Bool). cond b (Some x.1) (end_at k l)) (eq-eqb k x.0 q)) ∙ e)))
      (λ ne. let o = one-other k x.0 ne in let r = end-none k l (sym (ap (λ (b : Bool). cond b (Some x.1) (end_at k l)) (ne_eqb k x.0 ne)) ∙ e) in omega (arith, o, r))
    where
      no : Some x.1 ≡ None → ⊥
      no e = cc

  ends-at : (k : ℕ) (ts : List (SeatView R)) (s : ℕ) (t : SeatView R) → times k (keys (all_ends ts)) ≡ 0 → slice_get ts s ≡ Some t → times k (keys t.ends) ≡ 0
  ends-at k [] s t z e = absurd (no e)
    where
      no : None ≡ Some t → ⊥
      no e = cc
  ends-at k (u ∷ ts) zero t z e =
      let a = ap (times k) (keys-append u.ends (all_ends ts)) in let b = times-append k (keys u.ends) (keys (all_ends ts)) in
      subst (λ (v : SeatView R). times k (keys v.ends) ≡ 0) (some_same u t e) (omega (arith, a, b, z))
  ends-at k (u ∷ ts) (suc s) t z e =
      let a = ap (times k) (keys-append u.ends (all_ends ts)) in let b = times-append k (keys u.ends) (keys (all_ends ts)) in
      ends-at k ts s t (omega (arith, a, b, z)) e

  -- a drawn number with no end is the one that its seat holds
  holds-open : (ts : List (SeatView R)) (k s : ℕ) (t : SeatView R) → AllInOrder ts → end_at k (all_ends ts) ≡ None → slice_get ts s ≡ Some t → 0 < times k t.draws → t.held ≡ Some k
  holds-open ts k s t o e at p =
      let q = in_order-at ts s t o at in
      let z = ends-at k ts s t (end-none k (all_ends ts) e) at in
      let a = ap (times k) q.0 in
      let b = times-append k (keys t.ends) (held_list t.held) in
      held-is k t.held (omega (arith, a, b, z, p))

  apart : (ts : List (SeatView R)) (n : ℕ) → AllInOrder ts → ((k : ℕ) → k < n → 0 < times k (all_draws ts)) → Apart ts n 0
  apart ts n o all i j a b d e same =
      let x = drawer-drew i ts (all i (omega arith)) in
      let y = drawer-drew j ts (all j (omega arith)) in
      let one : y.0 ≡ x.0 = some_same y.0 x.0 (sym y.1 ∙ (ap (slice_get ts) (sym same) ∙ x.1)) in
      let t : SeatView R = x.0 in
      let holds = holds-open ts i (drawer i ts) t o e x.1 x.2 in
      let q = in_order-at ts (drawer i ts) t o x.1 in
      let draws : t.draws ≡ keys t.ends ++ i ∷ [] = q.0 ∙ ap (λ h. keys t.ends ++ held_list h) holds in
      let drew : 0 < times j t.draws = subst (λ (u : SeatView R). 0 < times j u.draws) one y.2 in
      let c = ap (times j) draws in
      let f = times-append j (keys t.ends) (i ∷ []) in
      let g = one-other j i (λ r. omega arith) in
      let below = rising-below 0 i j (keys t.ends) (subst (Rising 0) draws q.1) (omega (arith, c, f, g, drew)) in
      omega (arith, below)

  pub spots-taken : (ts : List (SeatView R)) (n k : ℕ) → Taken (spots_from ts n k)
  spots-taken ts zero k = tt
  spots-taken ts (suc n) k = go (drawer k ts) (end_at k (all_ends ts)) (spots-taken ts n (suc k))
    where
      go : (s : ℕ) (o : Option (Entry R)) → Taken (spots_from ts n (suc k)) → Taken (spot_of s o ∷ spots_from ts n (suc k))
      go s None h = h
      go s (Some e) h = h

  holds-spots : (ts : List (SeatView R)) (s n k : ℕ) → ((j : ℕ) → k ≤ j → j < k + n → end_at j (all_ends ts) ≡ None → drawer j ts ≢ s) → HoldsNone s (spots_from ts n k)
  holds-spots ts s zero k h = tt
  holds-spots ts s (suc n) k h = go (drawer k ts) (end_at k (all_ends ts)) (h k (omega arith) (omega arith)) (holds-spots ts s n (suc k) (λ j a b. h j (omega arith) (omega arith)))
    where
      go : (d : ℕ) (o : Option (Entry R)) → (o ≡ None → d ≢ s) → HoldsNone s (spots_from ts n (suc k)) → HoldsNone s (spot_of d o ∷ spots_from ts n (suc k))
      go d None ne r = (ne refl, r)
      go d (Some e) ne r = r

  abbrev pub falses : List (SeatView R) → List Bool
  falses us = map (λ _. false) us

  abbrev all_marks : List (SeatView R) → List Bool
  all_marks us = map (λ t. t.marked) us

  run-empty_claims : (i : ℕ) (us : List (SeatView R)) (xs : List (Spot R)) (pre : List Bool) → length pre ≡ i → (SomeMarked us → Taken xs)
      → run (record { spots = xs; marks = pre ++ falses us }) (empty_claims i us) ≡ record { spots = xs; marks = pre ++ all_marks us }
  run-empty_claims i [] xs pre long h = refl
  run-empty_claims i (t ∷ us) xs pre long h = go t.marked h (λ b q. run-empty_claims (suc i) us xs (pre ++ b ∷ []) (length-append pre (b ∷ []) ∙ omega arith) q)
    where
      go : (b : Bool) → (elim b as (λ _. Type 0) [ true ↦ Unit {0} | false ↦ SomeMarked us ] → Taken xs)
          → ((b : Bool) → (SomeMarked us → Taken xs) → run (record { spots = xs; marks = (pre ++ b ∷ []) ++ falses us }) (empty_claims (suc i) us) ≡ record { spots = xs; marks = (pre ++ b ∷ []) ++ all_marks us })
          → run (record { spots = xs; marks = pre ++ false ∷ falses us }) (cond b (claim i ∷ []) [] ++ empty_claims (suc i) us) ≡ record { spots = xs; marks = pre ++ b ∷ all_marks us }
      go true h again =
          let c : Core R = record { spots = xs; marks = pre ++ false ∷ falses us } in
          let marks : set (pre ++ false ∷ falses us) i true ≡ (pre ++ true ∷ []) ++ falses us =
          subst (λ (n : ℕ). set (pre ++ false ∷ falses us) n true ≡ (pre ++ true ∷ []) ++ falses us) long (set-here pre (falses us) false true ∙ sym (append_assoc pre (true ∷ []) (falses us))) in
          ap (λ (o : Option ℕ). run (after_claim c i o).0 (empty_claims (suc i) us)) (least-none xs (h tt))
          ∙ (ap (λ (l : List Bool). run (let d : Core R = record { spots = xs; marks = l } in d) (empty_claims (suc i) us)) marks
          ∙ (again true (λ _. h tt) ∙ ap (λ (l : List Bool). let d : Core R = record { spots = xs; marks = l } in d) (append_assoc pre (true ∷ []) (all_marks us))))
      go false h again =
          ap (λ (l : List Bool). run (let d : Core R = record { spots = xs; marks = l } in d) (empty_claims (suc i) us)) (sym (append_assoc pre (false ∷ []) (falses us)))
          ∙ (again false h ∙ ap (λ (l : List Bool). let d : Core R = record { spots = xs; marks = l } in d) (append_assoc pre (false ∷ []) (all_marks us)))

  legal-empty_claims : (i : ℕ) (us : List (SeatView R)) (xs : List (Spot R)) (ms : List Bool) → (SomeMarked us → Taken xs) → ((j : ℕ) (t : SeatView R) → slice_get us j ≡ Some t → t.marked ≡ true → HoldsNone (i + j) xs)
      → IsLegal (record { spots = xs; marks = ms }) (empty_claims i us)
  legal-empty_claims i [] xs ms h none = tt
  legal-empty_claims i (t ∷ us) xs ms h none =
      go t.marked h (λ m. subst (λ (z : ℕ). HoldsNone z xs) (let e : i + 0 ≡ i = omega arith in e) (none 0 t refl m))
      (λ q ss. legal-empty_claims (suc i) us xs ss q (λ j u at m. subst (λ (z : ℕ). HoldsNone z xs) (let e : i + suc j ≡ suc i + j = omega arith in e) (none (suc j) u at m)))
    where
      go : (b : Bool) → (elim b as (λ _. Type 0) [ true ↦ Unit {0} | false ↦ SomeMarked us ] → Taken xs) → (b ≡ true → HoldsNone i xs)
          → ((SomeMarked us → Taken xs) → (ss : List Bool) → IsLegal (record { spots = xs; marks = ss }) (empty_claims (suc i) us))
          → IsLegal (record { spots = xs; marks = ms }) (cond b (claim i ∷ []) [] ++ empty_claims (suc i) us)
      go true h none again =
          let c : Core R = record { spots = xs; marks = ms } in
          (none refl, subst (λ (o : Option ℕ). IsLegal (after_claim c i o).0 (empty_claims (suc i) us)) (sym (least-none xs (h tt))) (again (λ _. h tt) (set ms i true)))
      go false h none again = again h ms

  pub falses-all : (us : List (SeatView R)) → replicate (length us) false ≡ falses us
  falses-all [] = refl
  falses-all (t ∷ us) = ap (λ l. false ∷ l) (falses-all us)

  shown-free : (slots : List (Entry R)) (m k : ℕ) → k + m ≡ length slots → ((j : ℕ) → k ≤ j → j < length slots → slice_get slots j ≡ Some Undrawn) → map shown (replicate m Free) ≡ drop k slots
  shown-free slots zero k e h = sym (drop-all slots k (omega arith))
  shown-free slots (suc m) k e h = ap (λ l. Undrawn ∷ l) (shown-free slots m (suc k) (omega arith) (λ j a b. h j (omega arith) b)) ∙ sym (drop-get slots k Undrawn (h k (omega arith) (omega arith)))

  shown-all : (ts : List (SeatView R)) (slots : List (Entry R)) (n m k : ℕ) → (k + n) + m ≡ length slots → ((j : ℕ) → k ≤ j → j < k + n → slice_get slots j ≡ Some (shown (spot_of (drawer j ts) (end_at j (all_ends ts)))))
      → ((j : ℕ) → k + n ≤ j → j < length slots → slice_get slots j ≡ Some Undrawn) → map shown (spots_from ts n k ++ replicate m Free) ≡ drop k slots
  shown-all ts slots zero m k e h u = shown-free slots m k (omega arith) (λ j a b. u j (omega arith) b)
  shown-all ts slots (suc n) m k e h u =
      let x = spot_of (drawer k ts) (end_at k (all_ends ts)) in
      ap (λ l. shown x ∷ l) (shown-all ts slots n m (suc k) (omega arith) (λ j a b. h j (omega arith) (omega arith)) (λ j a b. u j (omega arith) b)) ∙ sym (drop-get slots k (shown x) (h k (omega arith) (omega arith)))

  pub shows-at : (slots : List (Entry R)) (l : List (ℕ × Entry R)) (k : ℕ) (e : Entry R) → Shows slots l → end_at k l ≡ Some e → slice_get slots k ≡ Some e
  shows-at slots [] k e h q = absurd (no q)
    where
      no : None ≡ Some e → ⊥
      no q = cc
  shows-at slots (x ∷ l) k e h q = dite (ℕ_discrete k x.0)
      (λ (r : k ≡ x.0). ap (slice_get slots) r ∙ (h.0 ∙ (sym (ap (λ (b : Bool). cond b (Some x.1) (end_at k l)) (eq-eqb k x.0 r)) ∙ q)))
      (λ ne. shows-at slots l k e h.1 (sym (ap (λ (b : Bool). cond b (Some x.1) (end_at k l)) (ne_eqb k x.0 ne)) ∙ q))

  pub is_line : (count trials : ℕ) (ts : List (SeatView R)) (slots : List (Entry R)) → Settles count trials ts slots → IsLine count trials ts slots
  is_line count trials ts slots h =
      let m : ℕ = trials - count in
      let sum : count + m ≡ trials = let w = h.within in omega (arith, w) in
      let start : replicate {A = Spot R} trials Free ≡ frees count (replicate m Free) = ap (λ (k : ℕ). replicate {A = Spot R} k Free) (sym sum) ∙ sym (frees-all count m) in
      let end : List (Spot R) = spots_from ts count 0 ++ replicate m Free in
      let all : (k : ℕ) → k < count → 0 < times k (all_draws ts) = λ k lt. let o = h.once k lt in omega (arith, o) in
      let opened : Core R = record { spots = frees count (replicate m Free); marks = falses ts } in
      let is_opened : opening_core trials (length ts) ≡ opened = λ i. record { spots = start i; marks = falses-all ts i } in
      let after_numbers : run opened (numbers_from ts count 0) ≡ record { spots = end; marks = falses ts } = run-numbers ts count 0 m [] (falses ts) tt refl in
      let taken : SomeMarked ts → Taken end = λ s. subst (λ (k : ℕ). Taken (spots_from ts count 0 ++ replicate k Free)) (let f = h.full s in let z : 0 ≡ m = omega (arith, f) in z)
      (subst Taken (sym (append-nil (spots_from ts count 0))) (spots-taken ts count 0)) in
      let ran : run opened (line count ts) ≡ record { spots = end; marks = all_marks ts } = run-append opened (numbers_from ts count 0) (empty_claims 0 ts)
      ∙ (ap (λ (d : Core R). run d (empty_claims 0 ts)) after_numbers ∙ run-empty_claims 0 ts end [] refl taken) in
      let rests : (j : ℕ) (t : SeatView R) → slice_get ts j ≡ Some t → t.marked ≡ true → HoldsNone (0 + j) end = λ j t at mark.
      let z : j ≡ 0 + j = omega arith in subst (λ (k : ℕ). HoldsNone k end) z
      (holds-free j zero (spots_from ts count 0) m (holds-spots ts j count 0 (λ k a b e same.
      let x = drawer-drew k ts (all k (omega arith)) in
      let one : x.0 ≡ t = some_same x.0 t (sym x.1 ∙ (ap (slice_get ts) same ∙ at)) in
      let holds = holds-open ts k j t h.in_order e at (subst (λ (u : SeatView R). 0 < times k u.draws) one x.2) in
      no k (sym ((in_order-at ts j t h.in_order at).2 mark) ∙ holds)))) in
      let legal : IsLegal opened (line count ts) = legal-append opened (numbers_from ts count 0) (empty_claims 0 ts)
      (legal-numbers ts count 0 m [] (falses ts) tt refl (apart ts count h.in_order all) (λ j a b. tt))
      (subst (λ (d : Core R). IsLegal d (empty_claims 0 ts)) (sym after_numbers) (legal-empty_claims 0 ts end (falses ts) taken rests)) in
      let shows : map shown end ≡ slots = shown-all ts slots count m 0 (let l = h.long in omega (arith, l)) (λ j a b. at_spot j (omega arith) (end_at j (all_ends ts)) refl) (λ j a b. let l = h.long in h.undrawn j (omega arith) (omega (arith, l))) in (
        subst (λ (d : Core R). IsLegal d (line count ts)) (sym is_opened) legal,
        subst (λ (d : Core R). map shown (run d (line count ts)).spots ≡ slots) (sym is_opened) (ap (λ (d : Core R). map shown d.spots) ran ∙ shows),
        subst (λ (d : Core R). (run d (line count ts)).marks ≡ all_marks ts) (sym is_opened) (ap (λ (d : Core R). d.marks) ran),
      )
    where
      no : (k : ℕ) → None ≡ Some k → ⊥
      no k e = cc

      at_spot : (j : ℕ) → j < count → (o : Option (Entry R)) → end_at j (all_ends ts) ≡ o → slice_get slots j ≡ Some (shown (spot_of (drawer j ts) o))
      at_spot j lt None e = h.held j lt (end-none j (all_ends ts) e)
      at_spot j lt (Some x) e = shows-at slots (all_ends ts) j x h.ended e
