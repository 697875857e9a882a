-- One list of events that the seats of a closed ledger amount to.
use Rattle.std.specs.Prelude.{◌≡◌, ℕ, zero, suc, Bool, true, false, cond, eqb, List, [], ◌∷◌, ◌++◌, map, length, Option, Some, None, slice_get}
use Rattle.pst_ledger.specs.declared.entry.Entry.{Entry}
use Rattle.pst_ledger.specs.declared.book.Spot.{Spot}
use Rattle.pst_ledger.specs.declared.book.Spot.TheVariants.{Holder, Ended}
use Rattle.pst_ledger.specs.Core.{Core, Event, claim, finish, Answer, granted, none_left, accepted, after, run, IsLegal, opening_core, shown}
use Rattle.pst_ledger.specs.Count.{times}
use Rattle.pst_ledger.specs.Seats.{SeatView, Settles, all_ends}

abbrev pub past_if : ℕ → ℕ → ℕ
past_if zero r = suc r
past_if (suc n) r = 0

module _ {R : Type 0} where
  -- the place of the first seat that drew the number
  abbrev pub drawer : ℕ → List (SeatView R) → ℕ
  drawer k [] = 0
  drawer k (t ∷ ts) = past_if (times k t.draws) (drawer k ts)

  -- what was first put at the number
  abbrev pub end_at : ℕ → List (ℕ × Entry R) → Option (Entry R)
  end_at k [] = None
  end_at k (x ∷ xs) = cond (eqb k x.0) (Some x.1) (end_at k xs)

  abbrev pub finish_if : ℕ → ℕ → Option (Entry R) → List (Event R)
  finish_if s k None = []
  finish_if s k (Some e) = finish s k e ∷ []

  -- the claim of a number, and then its end, if it has one
  abbrev pub at_number : List (SeatView R) → ℕ → List (Event R)
  at_number ts k = claim (drawer k ts) ∷ finish_if (drawer k ts) k (end_at k (all_ends ts))

  -- those of n numbers from k on
  abbrev pub numbers_from : List (SeatView R) → ℕ → ℕ → List (Event R)
  numbers_from ts zero k = []
  numbers_from ts (suc n) k = at_number ts k ++ numbers_from ts n (suc k)

  -- a claim by each seat that was answered None
  abbrev pub empty_claims : ℕ → List (SeatView R) → List (Event R)
  empty_claims i [] = []
  empty_claims i (t ∷ ts) = cond t.marked (claim i ∷ []) [] ++ empty_claims (suc i) ts

  -- each of n numbers in turn, and the claims that were answered None last
  abbrev pub line : ℕ → List (SeatView R) → List (Event R)
  line n ts = numbers_from ts n 0 ++ empty_claims 0 ts

  abbrev pub spot_of : ℕ → Option (Entry R) → Spot R
  spot_of s None = Holder s
  spot_of s (Some e) = Ended s e

  -- what is known of n numbers from k on
  abbrev pub spots_from : List (SeatView R) → ℕ → ℕ → List (Spot R)
  spots_from ts zero k = []
  spots_from ts (suc n) k = spot_of (drawer k ts) (end_at k (all_ends ts)) ∷ spots_from ts n (suc k)

  -- the line is legal from the opening, ends in these entries, and marks the seats that are marked
  abbrev pub IsLine : ℕ → ℕ → List (SeatView R) → List (Entry R) → Type 0
  IsLine count trials ts entries =
      IsLegal (opening_core trials (length ts)) (line count ts)
      × (map shown (run (opening_core trials (length ts)) (line count ts)).spots ≡ entries)
      × ((run (opening_core trials (length ts)) (line count ts)).marks ≡ map (λ t. t.marked) ts)

  -- ---- the part of each seat

  -- the events, each with its answer
  abbrev pub answered : Core R → List (Event R) → List (Event R × Answer)
  answered c [] = []
  answered c (e ∷ es) = (e, (after c e).1) ∷ answered (after c e).0 es

  abbrev pub seat_of : Event R → ℕ
  seat_of (claim s) = s
  seat_of (finish s k e) = s

  -- those of one seat
  abbrev pub part_of : ℕ → List (Event R × Answer) → List (Event R × Answer)
  part_of i [] = []
  part_of i (x ∷ xs) = cond (eqb i (seat_of x.0)) (x ∷ part_of i xs) (part_of i xs)

  -- a seat draws a number and ends it, and then the next
  abbrev pub ends_part : ℕ → List (ℕ × Entry R) → List (Event R × Answer)
  ends_part i [] = []
  ends_part i (x ∷ xs) = (claim i, granted x.0) ∷ (finish i x.0 x.1, accepted) ∷ ends_part i xs

  abbrev pub held_part : ℕ → Option ℕ → List (Event R × Answer)
  held_part i None = []
  held_part i (Some k) = (claim i, granted k) ∷ []

  abbrev pub mark_part : ℕ → Bool → List (Event R × Answer)
  mark_part i true = (claim i, none_left) ∷ []
  mark_part i false = []

  -- what the seat itself saw: the numbers that it ended, then the one that it holds, then its None
  abbrev pub own_part : ℕ → SeatView R → List (Event R × Answer)
  own_part i t = (ends_part i t.ends ++ held_part i t.held) ++ mark_part i t.marked

  -- each seat's part of the line is what the seat saw, in its order
  abbrev pub KeepsOrder : ℕ → ℕ → List (SeatView R) → Type 0
  KeepsOrder count trials ts =
      (i : ℕ) (t : SeatView R) → slice_get ts i ≡ Some t
      → part_of i (answered (opening_core trials (length ts)) (line count ts)) ≡ own_part i t

  -- what closing gives back: entries that settle the seats, by a line that keeps the order of each
  abbrev pub IsClosed : ℕ → List (SeatView R) → List (Entry R) → Type 0
  IsClosed trials ts entries =
      (count : ℕ)
      × Settles count trials ts entries × IsLine count trials ts entries × KeepsOrder count trials ts
