-- What a seat keeps, where it draws and ends.
use Rattle.std.proofs.Common.{◌≡◌, ◌≢◌, ℕ, zero, suc, ◌+◌, ◌<◌, ◌≤◌, eqb, false, List, [], ◌∷◌, ◌++◌, length, refl, sym, ap, ◌∙◌, subst, arith, Option, Some, None, append-nil, get_or, take, true≢false}
use Rattle.std.specs.Prelude.{vec_len, vec_capacity}
use Rattle.pst_ledger.specs.declared.entry.Entry.{Entry}
use Rattle.pst_ledger.specs.declared.entry.Entry.TheVariants.{Undrawn}
use Rattle.pst_ledger.specs.declared.seat.View.{View}
use Rattle.pst_ledger.specs.declared.seat.Seat.TheInside.{Inside}
use Rattle.pst_ledger.specs.Count.{one_if, times, keys}
use Rattle.pst_ledger.specs.Rule.{with_draw, with_end}
use Rattle.pst_ledger.specs.Seats.{Rising, held_list}
use Rattle.pst_ledger.specs.Inside.{IsSound, slots_of}
use Rattle.pst_ledger.proofs.Totals.{one-same, one-other, times-append, keys-append}

-- numbers that rise from low and stay below r are at most r - low
pub rising-length : (low r : ℕ) (xs : List ℕ) → low ≤ r → Rising low xs → ((x : ℕ) → 0 < times x xs → x < r) → low + length xs ≤ r
rising-length low r [] le h b = omega arith
rising-length low r (x ∷ xs) le h b =
    let o = one-same x in
    let here : x < r = b x (omega (arith, o)) in
    let rest = rising-length (x + 1) r xs (omega arith) h.1 (λ y p. b y (omega arith)) in
    omega (arith, rest, h.0)

pub rising-snoc : (low r : ℕ) (xs : List ℕ) → low ≤ r → Rising low xs → ((x : ℕ) → 0 < times x xs → x < r) → Rising low (xs ++ r ∷ [])
rising-snoc low r [] le h b = (le, tt)
rising-snoc low r (x ∷ xs) le h b =
    let o = one-same x in
    let here : x < r = b x (omega (arith, o)) in
    (h.0, rising-snoc (x + 1) r xs (omega arith) h.1 (λ y p. b y (omega arith)))

pub held_list-times : (k : ℕ) → times k (held_list (Some k)) ≡ 1
held_list-times k = let o = one-same k in omega (arith, o)

pub held_list-none : (k : ℕ) (h : Option ℕ) → h ≢ Some k → times k (held_list h) ≡ 0
held_list-none k None ne = refl
held_list-none k (Some j) ne = let o = one-other k j (λ e. ne (ap Some (sym e))) in omega (arith, o)

pub times-at : (x i : ℕ) (xs : List ℕ) → i < length xs → get_or xs i 0 ≡ x → 0 < times x xs
times-at x i [] lt e = absurd (omega arith)
times-at x zero (y ∷ xs) lt e = let o : one_if (eqb x y) ≡ 1 = subst (λ (z : ℕ). one_if (eqb z y) ≡ 1) e (one-same y) in omega (arith, o)
times-at x (suc i) (y ∷ xs) lt e = let h = times-at x i xs (omega arith) e in omega (arith, h)

pub times-take_more : (x i : ℕ) (xs : List ℕ) → i < length xs → get_or xs i 0 ≢ x → times x (take i xs) ≡ 0 → times x (take (i + 1) xs) ≡ 0
times-take_more x i xs lt ne z = let more : suc i ≡ i + 1 = omega arith in subst (λ (n : ℕ). times x (take n xs) ≡ 0) more (go x i xs lt ne z)
  where
    go : (x i : ℕ) (xs : List ℕ) → i < length xs → get_or xs i 0 ≢ x → times x (take i xs) ≡ 0 → times x (take (suc i) xs) ≡ 0
    go x i [] lt ne z = refl
    go x zero (y ∷ xs) lt ne z = let o = one-other x y (λ e. ne (sym e)) in omega (arith, o)
    go x (suc i) (y ∷ xs) lt ne z = let h = go x i xs (omega arith) ne (omega arith) in omega (arith, h)

module _ {R : Type 0} where
  pub has_room : (s : Inside R) (r : ℕ) → IsSound s → r < s.token.table_id.slots → ((x : ℕ) → 0 < times x s.token.me.0.draws → x < r) → vec_len s.draws < vec_capacity s.draws
  has_room s r h lt b =
      let a = rising-length 0 r s.draws.items (omega arith) h.rising (subst (λ (l : List ℕ). (x : ℕ) → 0 < times x l → x < r) h.draws b) in
      let c = h.room in
      let n = s.draws.ok.0 in
      omega (arith, a, c, n)

  pub draw_sound : (s s' : Inside R) (r : ℕ) → IsSound s → s.held ≡ None → r < s.token.table_id.slots → ((x : ℕ) → 0 < times x s.token.me.0.draws → x < r)
      → s'.token.table_id ≡ s.token.table_id → s'.token.me.0 ≡ with_draw s.token.me.0 r → s'.token.me.1 ≡ (r, Undrawn) ∷ s.token.me.1
      → s'.draws.items ≡ s.draws.items ++ r ∷ [] → vec_capacity s'.draws ≡ vec_capacity s.draws → s'.held ≡ Some r → s.marked ≡ false → s'.marked ≡ s.marked → IsSound s'
  draw_sound s s' r h idle lt b table view slots items capacity held unmarked_seats marked =
      let below = subst (λ (l : List ℕ). (x : ℕ) → 0 < times x l → x < r) h.draws b in record {
        draws = ap (λ (v : View R). v.draws) view ∙ (ap (λ (l : List ℕ). l ++ r ∷ []) h.draws ∙ sym items);
        part = ap (λ (v : View R). v.parts) view ∙ h.part;
        mark = ap (λ (v : View R). v.marks) view ∙ (h.mark ∙ ap one_if (sym marked));
        slots = slots ∙ (ap (λ (l : List (ℕ × Entry R)). (r, Undrawn) ∷ l) (h.slots ∙ ap slots_of idle) ∙ ap slots_of (sym held));
        order = items ∙ (ap (λ (l : List ℕ). l ++ r ∷ []) (h.order ∙ (ap (λ o. keys s.token.me.0.ends ++ held_list o) idle ∙ append-nil (keys s.token.me.0.ends)))
            ∙ (ap (λ (l : List (ℕ × Entry R)). keys l ++ r ∷ []) (sym (ap (λ (v : View R). v.ends) view)) ∙ ap (λ o. keys s'.token.me.0.ends ++ held_list o) (sym held)));
        rising = subst (Rising 0) (sym items) (rising-snoc 0 r s.draws.items (omega arith) h.rising below);
        rests = λ m. absurd (true≢false (sym m ∙ (marked ∙ unmarked_seats)));
        room = let a = h.room in let t = ap (λ i. i.slots) table in omega (arith, a, t, capacity);
      }

  -- a number that the seat holds is drawn and not ended
  pub open_number : (s : Inside R) (k : ℕ) → IsSound s → s.held ≡ Some k → times k (keys s.token.me.0.ends) < times k s.token.me.0.draws
  open_number s k h held =
      let e = ap (times k) (h.draws ∙ h.order) in
      let a = times-append k (keys s.token.me.0.ends) (held_list s.held) in
      let b = ap (λ o. times k (held_list o)) held in
      let c = held_list-times k in
      omega (arith, a, b, c, e)

  pub end_sound : (s s' : Inside R) (k : ℕ) (e : Entry R) → IsSound s → s.held ≡ Some k
      → s'.token.table_id ≡ s.token.table_id → s'.token.me.0 ≡ with_end s.token.me.0 k e → s'.token.me.1 ≡ []
      → s'.draws ≡ s.draws → s'.held ≡ None → s'.marked ≡ s.marked → IsSound s'
  end_sound s s' k e h holds table view slots draws held marked = record {
    draws = ap (λ (v : View R). v.draws) view ∙ (h.draws ∙ sym (ap (λ d. d.items) draws));
    part = ap (λ (v : View R). v.parts) view ∙ h.part;
    mark = ap (λ (v : View R). v.marks) view ∙ (h.mark ∙ ap one_if (sym marked));
    slots = slots ∙ ap slots_of (sym held);
    order = ap (λ d. d.items) draws ∙ (h.order ∙ (ap (λ o. keys s.token.me.0.ends ++ held_list o) holds ∙ (sym (keys-append s.token.me.0.ends ((k, e) ∷ []))
        ∙ (ap (λ (v : View R). keys v.ends) (sym view) ∙ (sym (append-nil (keys s'.token.me.0.ends)) ∙ ap (λ o. keys s'.token.me.0.ends ++ held_list o) (sym held))))));
    rising = subst (λ d. Rising 0 d.items) (sym draws) h.rising;
    rests = λ _. held;
    room = subst (λ d. s'.token.table_id.slots ≤ vec_capacity d) (sym draws) (let a = h.room in let t = ap (λ i. i.slots) table in omega (arith, a, t));
  }
