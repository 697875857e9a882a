-- What the rule answer_of once one view has all parts.
use Rattle.std.proofs.Common.{◌≡◌, ◌≢◌, ◌⊎◌, ℕ, zero, suc, ◌+◌, ◌<◌, ◌≤◌, Bool, true, false, List, [], ◌∷◌, ◌++◌, length, refl, sym, ap, ◌∙◌, subst, arith, Option, Some, None, append-nil, inl, inr, ⊎_elim}
use Rattle.std.specs.Prelude.{slice_get, slice_index, All}
use mathlib.Core.Option.{some, none, some-ne-none, some-injective}
use mathlib.Core.Option as maybe
use mathlib.Core.Logic.{dite}
use native.Mathlib.Decide.{ℕ_discrete, dec_le}
use lib.ListN.{get_elem?}
use Rattle.atomic_table.specs.Table.{State, Final, Seen}
use Rattle.atomic_table.specs.Seated.{TableId}
use Rattle.pst_ledger.specs.declared.entry.Entry.{Entry}
use Rattle.pst_ledger.specs.declared.entry.Entry.TheVariants.{Undrawn, Held}
use Rattle.pst_ledger.specs.declared.seat.View.{View}
use Rattle.pst_ledger.specs.declared.seat.Seat.TheInside.{Inside}
use Rattle.pst_ledger.specs.Count.{one_if, times, keys, total_of}
use Rattle.pst_ledger.specs.Rule.{Kept, AtHome, with_end}
use Rattle.pst_ledger.specs.Seats.{SeatView, held_list, AllInOrder, OfTable, all_draws, all_ends, Shows, SomeMarked, Settles}
use Rattle.pst_ledger.specs.Inside.{view_of, IsSound, held_ends, settled, gathered}
use Rattle.pst_ledger.proofs.Totals.{total-two, total-one, times-append, keys-append}
use Rattle.pst_ledger.proofs.Homes.{home-front, home-back}
use Rattle.pst_ledger.proofs.Seats.{held_list-none}

get_there : {A : Type 0} (xs : List A) (k : ℕ) (y : A) → get_elem? xs k ≡ some y → slice_get xs k ≡ Some y
get_there [] k y e = absurd (some-ne-none y (sym e))
get_there (x ∷ xs) zero y e = ap Some (some-injective x y e)
get_there (x ∷ xs) (suc k) y e = get_there xs k y e

pub none_of : (o : Option ℕ) → ((k : ℕ) → o ≢ Some k) → o ≡ None
none_of None h = refl
none_of (Some k) h = absurd (h k refl)

-- a fact of all of a list, part by part
module _ {A : Type 0} (P : A → Type 0) where
  pub all_head : (x : A) (xs : List A) → All P (x ∷ xs) → P x
  all_head x xs h = h 0 x (omega arith)

  pub all_tail : (x : A) (xs : List A) → All P (x ∷ xs) → All P xs
  all_tail x xs h i d lt = h (suc i) d (omega arith)

  pub all_none : All P []
  all_none i d lt = absurd (omega arith)

  pub all_more : (x : A) (xs : List A) → P x → All P xs → All P (x ∷ xs)
  all_more x xs p h zero d lt = p
  all_more x xs p h (suc i) d lt = h i d (omega arith)

  pub all_front : (xs ys : List A) → All P (xs ++ ys) → All P xs
  all_front [] ys h = all_none
  all_front (x ∷ xs) ys h = all_more x xs (all_head x (xs ++ ys) h) (all_front xs ys (all_tail x (xs ++ ys) h))

  pub all_back : (xs ys : List A) → All P (xs ++ ys) → All P ys
  all_back [] ys h = h
  all_back (x ∷ xs) ys h = all_back xs ys (all_tail x (xs ++ ys) h)

module _ {R : Type 0} where
  pub settled_held : (s : Inside R) (k : ℕ) → IsSound s → s.held ≡ Some k → with_end s.token.me.0 k Held ≡ settled (view_of s)
  settled_held s k h e = λ i. record { parts = h.part i; marks = h.mark i; draws = h.draws i; ends = s.token.me.0.ends ++ held_ends (sym e i) }

  pub settled_idle : (s : Inside R) → IsSound s → s.held ≡ None → s.token.me.0 ≡ settled (view_of s)
  settled_idle s h e =
      let same : s.token.me.0.ends ≡ s.token.me.0.ends ++ held_ends s.held = sym (append-nil s.token.me.0.ends) ∙ ap (λ (o : Option ℕ). s.token.me.0.ends ++ held_ends o) (sym e) in
      λ i. record { parts = h.part i; marks = h.mark i; draws = h.draws i; ends = same i }

  abbrev of : TableId → SeatView R → Type 0
  of id t = t.table ≡ id

  pub of_front : (id : TableId) (ts : List (SeatView R)) (t : SeatView R) → OfTable id (ts ++ t ∷ []) → OfTable id ts
  of_front id ts t h = all_front (of id) ts (t ∷ []) h

  pub of_last : (id : TableId) (ts : List (SeatView R)) (t : SeatView R) → OfTable id (ts ++ t ∷ []) → t.table ≡ id
  of_last id ts t h = all_head (of id) t [] (all_back (of id) ts (t ∷ []) h)

  gathered-parts : (ts : List (SeatView R)) → (gathered ts).parts ≡ length ts
  gathered-parts [] = refl
  gathered-parts (t ∷ ts) = let h = gathered-parts ts in omega (arith, h)

  gathered-draws : (ts : List (SeatView R)) → (gathered ts).draws ≡ all_draws ts
  gathered-draws [] = refl
  gathered-draws (t ∷ ts) = ap (λ l. t.draws ++ l) (gathered-draws ts)

  gathered-marks : (ts : List (SeatView R)) → SomeMarked ts → 0 < (gathered ts).marks
  gathered-marks [] h = absurd h
  gathered-marks (t ∷ ts) h = go (gathered-marks ts) t.marked refl
    where
      go : (SomeMarked ts → 0 < (gathered ts).marks) → (b : Bool) → t.marked ≡ b → 0 < one_if t.marked + (gathered ts).marks
      go again true e = let o = ap one_if e in omega (arith, o)
      go again false e = let rest = again (subst (λ (b : Bool). elim b as (λ _. Type 0) [ true ↦ Unit {0} | false ↦ SomeMarked ts ]) e h) in omega (arith, rest)

  module _ (homes : List (maybe.Option (Entry R))) where
    gathered-ends : (xs : List (Entry R)) → ((k : ℕ) (y : Entry R) → get_elem? homes k ≡ some (some y) → get_elem? xs k ≡ some y) → (ts : List (SeatView R)) → AtHome homes (gathered ts).ends → Shows xs (all_ends ts)
    gathered-ends xs at [] h = tt
    gathered-ends xs at (t ∷ ts) h = both t.ends (all_ends ts)
        (one t.ends (home-front homes t.ends (held_ends t.held) (home-front homes (t.ends ++ held_ends t.held) (gathered ts).ends h)))
        (gathered-ends xs at ts (home-back homes (t.ends ++ held_ends t.held) (gathered ts).ends h))
      where
        one : (l : List (ℕ × Entry R)) → AtHome homes l → Shows xs l
        one [] h = tt
        one (x ∷ l) h = (get_there xs x.0 x.1 (at x.0 x.1 h.0), one l h.1)

        both : (l m : List (ℕ × Entry R)) → Shows xs l → Shows xs m → Shows xs (l ++ m)
        both [] m h k = k
        both (x ∷ l) m h k = (h.0, both l m h.1 k)

    -- a number that was drawn and not ended is Held
    gathered-held : (k : ℕ) (ts : List (SeatView R)) → AllInOrder ts → 0 < times k (all_draws ts) → times k (keys (all_ends ts)) ≡ 0 → AtHome homes (gathered ts).ends → get_elem? homes k ≡ some (some Held)
    gathered-held k [] o some_drawn z h = absurd (omega arith)
    gathered-held k (t ∷ ts) o some_drawn z h = go (gathered-held k ts o.1) t.held refl
      where
        cut : times k (keys t.ends) + times k (keys (all_ends ts)) ≡ 0
        cut = let a = ap (times k) (keys-append t.ends (all_ends ts)) in let b = times-append k (keys t.ends) (keys (all_ends ts)) in omega (arith, a, b, z)

        rest : (0 < times k (all_draws ts) → times k (keys (all_ends ts)) ≡ 0 → AtHome homes (gathered ts).ends → get_elem? homes k ≡ some (some Held)) → t.held ≢ Some k → get_elem? homes k ≡ some (some Held)
        rest again ne =
            let a = ap (times k) o.0.0 in
            let b = times-append k (keys t.ends) (held_list t.held) in
            let c = held_list-none k t.held ne in
            let d = times-append k t.draws (all_draws ts) in
            again (omega (arith, a, b, c, d, cut, some_drawn)) (omega (arith, cut)) (home-back homes (t.ends ++ held_ends t.held) (gathered ts).ends h)

        go : (0 < times k (all_draws ts) → times k (keys (all_ends ts)) ≡ 0 → AtHome homes (gathered ts).ends → get_elem? homes k ≡ some (some Held)) → (x : Option ℕ) → t.held ≡ x → get_elem? homes k ≡ some (some Held)
        go again None e = rest again (λ q. absurd (none_some (sym e ∙ q)))
          where
            none_some : None ≡ Some k → ⊥
            none_some q = cc
        go again (Some j) e = dite (ℕ_discrete j k)
            (λ (q : j ≡ k). subst (λ (z : ℕ). get_elem? homes z ≡ some (some Held)) q
            (subst (λ (x : Option ℕ). AtHome homes (held_ends x)) e (home-back homes t.ends (held_ends t.held) (home-front homes (t.ends ++ held_ends t.held) (gathered ts).ends h))).0)
            (λ ne. rest again (λ q. ne (some_same (sym e ∙ q))))
          where
            some_same : Some j ≡ Some k → j ≡ k
            some_same q = cc

  module _ (seats id : ℕ) (ts : List (SeatView R)) (s : State (Entry R) (View R)) (r : Kept seats s) (at : get_elem? s.views id ≡ some (gathered ts)) (all : length ts ≡ seats) where
    word : ℕ
    word = slice_index s.words 0

    abbrev acc : View R
    acc = gathered ts

    idle_else : (j : ℕ) (u : View R) → j ≢ id → get_elem? s.views j ≡ some u → u.parts ≡ 0
    idle_else j u ne e = let a = total-two (λ (v : View R). v.parts) s.views j id u acc e at ne in let b = gathered-parts ts in let c = r.parts in omega (arith, a, b, c, all)

    all_drawn : (k : ℕ) → total_of (λ (v : View R). times k v.draws) s.views ≡ times k (all_draws ts)
    all_drawn k = total-one (λ (v : View R). times k v.draws) s.views id acc at (λ j u ne e. ap (times k) ((r.fits j u e).idle (idle_else j u ne e)).0) ∙ ap (times k) (gathered-draws ts)

    all_marks : total_of (λ (v : View R). v.marks) s.views ≡ acc.marks
    all_marks = total-one (λ (v : View R). v.marks) s.views id acc at (λ j u ne e. let a = (r.fits j u e).marked in let b = idle_else j u ne e in omega (arith, a, b))

    settles : (xs : List (Entry R)) → length s.homes ≡ length xs → ((k : ℕ) (y : Entry R) → get_elem? s.homes k ≡ some (some y) → get_elem? xs k ≡ some y) → AllInOrder ts
        → (count : ℕ) → count ≤ length xs → count ≤ slice_index s.words 0 → (count ≡ length xs) ⊎ ((count ≡ slice_index s.words 0) × (slice_index s.words 0 < length xs)) → Settles count (length xs) ts xs
    settles xs long there order count in_xs in_word which = record {
      long = refl;
      within = in_xs;
      once = λ k lt. sym (all_drawn k) ∙ r.once k (omega arith) (omega (arith, long));
      never = λ k le. sym (all_drawn k) ∙ ⊎_elim (λ (e : count ≡ length xs). r.not_out k (omega (arith, e, long))) (λ (e : (count ≡ slice_index s.words 0) × (slice_index s.words 0 < length xs)). r.not_yet k (omega (arith, e.0))) which;
      full = λ m. let a = gathered-marks ts m in let p = r.past (omega (arith, a, all_marks)) in
          ⊎_elim (λ (e : count ≡ length xs). e) (λ (e : (count ≡ slice_index s.words 0) × (slice_index s.words 0 < length xs)). absurd (omega (arith, p, e.1, long))) which;
      in_order = order;
      ended = gathered-ends s.homes xs there ts (r.fits id acc at).home;
      held = λ k lt z. get_there xs k Held (there k Held (gathered-held s.homes k ts order (let a = all_drawn k in let b = r.once k (omega arith) (omega (arith, long)) in omega (arith, a, b)) z (r.fits id acc at).home));
      undrawn = λ k le lt. get_there xs k Undrawn (there k Undrawn (r.free k (⊎_elim (λ (e : count ≡ length xs). absurd (omega (arith, e))) (λ (e : (count ≡ slice_index s.words 0) × (slice_index s.words 0 < length xs)). let a = e.0 in omega (arith, a)) which) (omega (arith, long))));
    }

  pub closes : (seats id : ℕ) (v : View R) (ts : List (SeatView R)) (ws : List ℕ) (xs : List (Entry R)) → Final (Seen (Kept seats) id v) ws xs → v ≡ gathered ts → AllInOrder ts → length ts ≡ seats
      → (count : ℕ) × Settles count (length xs) ts xs
  closes seats id v ts ws xs f is order all =
      let s = f.0 in
      let at = f.1.1 ∙ ap some is in
      let r = f.1.0 in
      let go = settles seats id ts s r at all xs f.3 f.4 order in
      dite (dec_le (length xs) (slice_index s.words 0))
      (λ (le : length xs ≤ slice_index s.words 0). (length xs, go (length xs) (omega arith) le (inl refl)))
      (λ gt. let lt : slice_index s.words 0 < length xs = omega arith in (slice_index s.words 0, go (slice_index s.words 0) (omega arith) (omega arith) (inr (refl, lt))))
