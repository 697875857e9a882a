-- Where all workers came back, each number has an entry that its worker's system may give, or is undrawn if they may end early.
use Rattle.std.proofs.Common.{◌≡◌, ◌⊎◌, inl, inr, ℕ, zero, suc, ◌<◌, ◌≤◌, Bool, true, false, List, [], ◌∷◌, ◌++◌, Option, Some, None, Result, Ok, Err, length, sym, ap, ◌∙◌, subst, arith, append-nil}
use Rattle.std.specs.Prelude.{slice_get, All, IfOk}
use Rattle.std.specs.List.{AllZip}
use mathlib.Core.Logic.{dite}
use native.Mathlib.Decide.{ℕ_discrete, dec_le}
use Rattle.atomic_table.specs.Seated.{TableId}
use Rattle.pst_campaign.specs.Workers.{IsMarked, IsWorked}
use Rattle.pst_campaign.specs.Working.{AllGiven, AllGivenUnless}
use Rattle.pst_campaign.proofs.Zips.{none_some, zip_at, zip_all}
use Rattle.pst_ledger.specs.declared.entry.Entry.{Entry}
use Rattle.pst_ledger.specs.declared.entry.Entry.TheVariants.{Undrawn}
use Rattle.pst_ledger.specs.Count.{times, keys}
use Rattle.pst_ledger.specs.Line.{drawer}
use Rattle.pst_ledger.specs.Seats.{SeatView, held_list, OfTable, Shows, SomeMarked, Settles}
use Rattle.pst_ledger.proofs.Closing.{all_head, all_tail}
use Rattle.pst_ledger.proofs.Owning.{in_order-at, shows-seat}
use Rattle.pst_ledger.proofs.Parts.{some_same, drawer-drew}
use Rattle.pst_ledger.proofs.Totals.{one-other}

-- of two facts of which one never holds the other does
pub always : {P : Type 0} → P ⊎ ⊥ → P
always (inl p) = p
always (inr never) = absurd never

get_below : {A : Type 0} (xs : List A) (k : ℕ) (x : A) → slice_get xs k ≡ Some x → k < length xs
get_below [] k x e = absurd (none_some x e)
get_below (y ∷ xs) zero x e = omega arith
get_below (y ∷ xs) (suc k) x e = let h = get_below xs k x e in omega (arith, h)

module _ {R S : Type 0} (may_end : Type 0) (may_give : S → ℕ → Entry R → Type 0) (id : TableId) where
  abbrev Worked : S → SeatView R → Type 0
  Worked s t = IsWorked may_end (may_give s) id t

  pub of_table : (systems : List S) (ts : List (SeatView R)) → AllZip Worked systems ts → OfTable id ts
  of_table systems ts all = zip_all Worked (λ t. t.table ≡ id) (λ s t w. w.place) systems ts all

  first_marked : (t : SeatView R) (ts : List (SeatView R)) → IsMarked may_end t → SomeMarked (t ∷ ts) ⊎ may_end
  first_marked t ts (inl marked) =
      inl (subst (λ (b : Bool). elim b as (λ _. Type 0) [ true ↦ Unit {0} | false ↦ SomeMarked ts ]) (sym marked) tt)
  first_marked t ts (inr may) = inr may

  some_marked : (systems : List S) (ts : List (SeatView R)) → 0 < length systems → AllZip Worked systems ts
      → SomeMarked ts ⊎ may_end
  some_marked [] ts lt all = absurd (omega arith)
  some_marked (s ∷ ss) [] lt all = absurd all
  some_marked (s ∷ ss) (t ∷ ts) lt all = first_marked t ts all.0.marked

  -- a number among the ends has an end that is shown
  end_among : (P : ℕ × Entry R → Type 0) (entries : List (Entry R)) (k : ℕ) (es : List (ℕ × Entry R))
      → 0 < times k (keys es) → Shows entries es → All P es → (e : Entry R) × (slice_get entries k ≡ Some e) × P (k, e)
  end_among P entries k [] p h all = absurd (omega arith)
  end_among P entries k (x ∷ es) p h all = dite (ℕ_discrete k x.0)
      (λ (q : k ≡ x.0). (
        x.1,
        ap (slice_get entries) q ∙ h.0,
        subst (λ (z : ℕ). P (z, x.1)) (sym q) (all_head P x es all),
      ))
      (λ ne. end_among P entries k es (let o = one-other k x.0 ne in omega (arith, o)) h.1 (all_tail P x es all))

  -- a number that was drawn has an entry that its worker's system may give
  drawn_given : (systems : List S) (ts : List (SeatView R)) (count trials : ℕ) (entries : List (Entry R))
      → AllZip Worked systems ts → Settles count trials ts entries → (k : ℕ) (e : Entry R) → slice_get entries k ≡ Some e
      → k < count → (i : ℕ) × (s : S) × (slice_get systems i ≡ Some s) × may_give s k e
  drawn_given systems ts count trials entries all h k e at drawn =
      let once = h.once k drawn in
      let drew = drawer-drew k ts (omega (arith, once)) in
      let i : ℕ = drawer k ts in
      let t : SeatView R = drew.0 in
      let who = zip_at Worked systems ts i t all drew.1 in
      let s : S = who.0 in
      let w : Worked s t = who.2 in
      let order = in_order-at ts i t h.in_order drew.1 in
      let draws : t.draws ≡ keys t.ends
      = order.0 ∙ (ap (λ (o : Option ℕ). keys t.ends ++ held_list o) w.rests ∙ append-nil (keys t.ends)) in
      let among : 0 < times k (keys t.ends) = subst (λ (l : List ℕ). 0 < times k l) draws drew.2 in
      let end = end_among (λ x. may_give s x.0 x.1) entries k t.ends among (shows-seat entries ts i t h.ended drew.1) w.given in
      let same : end.0 ≡ e = some_same end.0 e (sym end.1 ∙ at) in
      (i, s, who.1, subst (λ (x : Entry R). may_give s k x) same end.2)

  undrawn_given : (ts : List (SeatView R)) (count trials : ℕ) (entries : List (Entry R)) → Settles count trials ts entries
      → (k : ℕ) (e : Entry R) → slice_get entries k ≡ Some e → count ≤ k → SomeMarked ts ⊎ may_end → may_end × (e ≡ Undrawn)
  undrawn_given ts count trials entries h k e at past (inl marked) =
      let below = get_below entries k e at in
      let full = h.full marked in
      let long = h.long in
      absurd (omega (arith, below, full, long, past))
  undrawn_given ts count trials entries h k e at past (inr may) =
      let below = get_below entries k e at in
      let long = h.long in
      (may, some_same e Undrawn (sym at ∙ h.undrawn k past (omega (arith, below, long))))

  pub all_given : (systems : List S) (ts : List (SeatView R)) (count trials : ℕ) (entries : List (Entry R))
      → 0 < length systems → AllZip Worked systems ts → Settles count trials ts entries
      → AllGivenUnless may_end may_give systems entries
  all_given systems ts count trials entries lt all h k e at = dite (dec_le count k)
      (λ (past : count ≤ k). inl (undrawn_given ts count trials entries h k e at past (some_marked systems ts lt all)))
      (λ not_past. inr (drawn_given systems ts count trials entries all h k e at (omega (arith, not_past))))

module _ {R S : Type 0} (may_give : S → ℕ → Entry R → Type 0) (systems : List S) where
  given_or : (k : ℕ) (e : Entry R)
      → (⊥ × (e ≡ Undrawn)) ⊎ ((i : ℕ) × (s : S) × (slice_get systems i ≡ Some s) × may_give s k e)
      → (i : ℕ) × (s : S) × (slice_get systems i ≡ Some s) × may_give s k e
  given_or k e (inl never) = absurd never.0
  given_or k e (inr given) = given

  -- a campaign that does not end early shows an entry for each number
  pub all_given_to_the_end : (entries : List (Entry R)) → AllGivenUnless ⊥ may_give systems entries
      → AllGiven may_give systems entries
  all_given_to_the_end entries h k e at = given_or k e (h k e at)

  -- the same of what a campaign answers
  pub if_to_the_end : {E : Type 0} (r : Result (List (Entry R)) E) → IfOk r (λ l. AllGivenUnless ⊥ may_give systems l)
      → IfOk r (λ l. AllGiven may_give systems l)
  if_to_the_end (Ok l) h = all_given_to_the_end l h
  if_to_the_end (Err e) h = tt
