-- The book as a state that events change, and what it answers to each.
use Rattle.std.specs.Prelude.{◌≢◌, ℕ, zero, suc, ◌+◌, ⊤, Bool, true, false, cond, eqb, List, [], ◌∷◌, Option, Some, None, slice_get, slice_set, replicate}
use Rattle.pst_ledger.specs.declared.entry.Entry.{Entry}
use Rattle.pst_ledger.specs.declared.entry.Entry.TheVariants.{Undrawn, Held}
use Rattle.pst_ledger.specs.declared.ledger.LedgerFault.{LedgerFault}
use Rattle.pst_ledger.specs.declared.ledger.LedgerFault.TheVariants.{NotYours, Twice}
use Rattle.pst_ledger.specs.declared.book.Spot.{Spot}
use Rattle.pst_ledger.specs.declared.book.Spot.TheVariants.{Free, Holder, Ended}

-- what is known of each number, and of each seat whether it was answered None
pub record Core (R : Type 0) : Type 0 where
  pub spots : List (Spot R)
  pub marks : List Bool

-- a seat claims a number, or ends a number with an entry
pub data Event (R : Type 0) : Type 0 where
  claim : ℕ → Event R
  finish : ℕ → ℕ → Entry R → Event R

pub data Answer : Type 0 where
  granted : ℕ → Answer
  none_left : Answer
  accepted : Answer
  refused : LedgerFault → Answer

-- the answer to a claim that gives this
abbrev pub claim_answer : Option ℕ → Answer
claim_answer None = none_left
claim_answer (Some k) = granted k

-- the same place in a list that is one longer in front
abbrev pub one_later : Option ℕ → Option ℕ
one_later None = None
one_later (Some k) = Some (k + 1)

module _ {R : Type 0} where
  -- the least free number
  abbrev pub least_free : List (Spot R) → Option ℕ
  least_free [] = None
  least_free (Free ∷ xs) = Some 0
  least_free (Holder s ∷ xs) = one_later (least_free xs)
  least_free (Ended s e ∷ xs) = one_later (least_free xs)

  abbrev pub with_spot : Core R → ℕ → Spot R → Core R
  with_spot c k x = record { spots = slice_set c.spots k x; marks = c.marks }

  abbrev pub with_seat_marked : Core R → ℕ → Core R
  with_seat_marked c s = record { spots = c.spots; marks = slice_set c.marks s true }

  -- a seat claims, and this is the least free number
  abbrev pub after_claim : Core R → ℕ → Option ℕ → Core R × Answer
  after_claim c s None = (with_seat_marked c s, none_left)
  after_claim c s (Some k) = (with_spot c k (Holder s), granted k)

  -- a seat ends a number, of which this is known
  abbrev pub after_finish : Core R → ℕ → ℕ → Entry R → Option (Spot R) → Core R × Answer
  after_finish c s k e None = (c, refused NotYours)
  after_finish c s k e (Some Free) = (c, refused NotYours)
  after_finish c s k e (Some (Holder t)) =
      cond (eqb s t) (with_spot c k (Ended s e), accepted) (c, refused NotYours)
  after_finish c s k e (Some (Ended t d)) = cond (eqb s t) (c, refused Twice) (c, refused NotYours)

  -- the state and the answer after an event
  abbrev pub after : Core R → Event R → Core R × Answer
  after c (claim s) = after_claim c s (least_free c.spots)
  after c (finish s k e) = after_finish c s k e (slice_get c.spots k)

  -- the state after a list of events
  abbrev pub run : Core R → List (Event R) → Core R
  run c [] = c
  run c (e ∷ es) = run (after c e).0 es

  -- a seat holds no number
  abbrev pub HoldsNone : ℕ → List (Spot R) → Type 0
  HoldsNone s [] = ⊤
  HoldsNone s (Free ∷ xs) = HoldsNone s xs
  HoldsNone s (Holder t ∷ xs) = (t ≢ s) × HoldsNone s xs
  HoldsNone s (Ended t e ∷ xs) = HoldsNone s xs

  -- only a seat that holds no number claims
  abbrev pub IsLegal : Core R → List (Event R) → Type 0
  IsLegal c [] = ⊤
  IsLegal c (claim s ∷ es) = HoldsNone s c.spots × IsLegal (after c (claim s)).0 es
  IsLegal c (finish s k e ∷ es) = IsLegal (after c (finish s k e)).0 es

  -- every number is free, and no seat is marked
  abbrev pub opening_core : ℕ → ℕ → Core R
  opening_core trials seats = record { spots = replicate trials Free; marks = replicate seats false }

  -- the entry that shows what is known of a number
  abbrev pub shown : Spot R → Entry R
  shown Free = Undrawn
  shown (Holder s) = Held
  shown (Ended s e) = e

  -- the numbers from n on are free, and no other is
  abbrev pub FreeFrom : ℕ → List (Spot R) → Type 0
  FreeFrom zero [] = ⊤
  FreeFrom zero (Free ∷ xs) = FreeFrom zero xs
  FreeFrom zero (Holder s ∷ xs) = ⊥
  FreeFrom zero (Ended s e ∷ xs) = ⊥
  FreeFrom (suc n) [] = ⊥
  FreeFrom (suc n) (Free ∷ xs) = ⊥
  FreeFrom (suc n) (Holder s ∷ xs) = FreeFrom n xs
  FreeFrom (suc n) (Ended s e ∷ xs) = FreeFrom n xs
