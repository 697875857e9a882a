-- What contracts see of a seat and of a ledger, and what closing shows of them.
use Rattle.std.specs.Prelude.{◌≡◌, ◌≢◌, ℕ, ◌≤◌, ◌<◌, ◌+◌, ⊤, Bool, true, false, List, [], ◌∷◌, ◌++◌, Option, Some, None, length, slice_get, All}
use Rattle.atomic_table.specs.Seated.{TableId}
use Rattle.pst_ledger.specs.declared.entry.Entry.{Entry}
use Rattle.pst_ledger.specs.declared.entry.Entry.TheVariants.{Undrawn, Held}
use Rattle.pst_ledger.specs.declared.ledger.LedgerFault.{LedgerFault}
use Rattle.pst_ledger.specs.declared.ledger.LedgerFault.TheVariants.{NotYours, Twice}
use Rattle.pst_ledger.specs.Count.{times, keys}

-- ---- seats

-- A seat: the table of its ledger, the numbers that it drew, those that it ended with what it put there, both
-- in their order, the number that it holds, and whether it was answered None.
pub record SeatView (R : Type 0) : Type 0 where
  pub table : TableId
  pub draws : List ℕ
  pub ends : List (ℕ × Entry R)
  pub held : Option ℕ
  pub marked : Bool

-- a ledger: its table, with a slot for each number, and how many seats it has
pub record LedgerView : Type 0 where
  pub table : TableId
  pub seats : ℕ

-- each number is above those before it
abbrev pub Rising : ℕ → List ℕ → Type 0
Rising low [] = ⊤
Rising low (x ∷ xs) = (low ≤ x) × Rising (x + 1) xs

-- the number that is held, if one is
abbrev pub held_list : Option ℕ → List ℕ
held_list None = []
held_list (Some k) = k ∷ []

module _ {R : Type 0} where
  -- a seat that has done nothing
  abbrev pub new_seat : TableId → SeatView R
  new_seat id = record { table = id; draws = []; ends = []; held = None; marked = false }

  -- the seat when it has drawn a number, which it then holds
  abbrev pub drawing : SeatView R → ℕ → SeatView R
  drawing t k = record {
    table = t.table;
    draws = t.draws ++ k ∷ [];
    ends = t.ends;
    held = Some k;
    marked = t.marked;
  }

  -- the seat when it was answered None
  abbrev pub marking : SeatView R → SeatView R
  marking t = record { table = t.table; draws = t.draws; ends = t.ends; held = t.held; marked = true }

  -- the seat when it has ended the number that it held
  abbrev pub ending : SeatView R → ℕ → Entry R → SeatView R
  ending t k e = record {
    table = t.table;
    draws = t.draws;
    ends = t.ends ++ (k, e) ∷ [];
    held = None;
    marked = t.marked;
  }

  -- why a seat may not end a number: it never drew it, or it has ended it
  abbrev pub IsRefused : SeatView R → ℕ → LedgerFault → Type 0
  IsRefused t k NotYours = times k t.draws ≡ 0
  IsRefused t k Twice = 0 < times k (keys t.ends)

  -- a seat held the number, and has ended it so
  abbrev pub HasEnded : SeatView R → SeatView R → ℕ → Entry R → Type 0
  HasEnded before after k e = (before.held ≡ Some k) × (after ≡ ending before k e)

  -- a seat did not hold the number for this reason, and is as it was
  abbrev pub HasRefused : SeatView R → SeatView R → ℕ → LedgerFault → Type 0
  HasRefused before after k f = (before.held ≢ Some k) × (after ≡ before) × IsRefused before k f

  -- the draws rise, and are the numbers that were ended and then the one that is held; a marked seat holds
  -- none
  abbrev pub InOrder : SeatView R → Type 0
  InOrder t =
      (t.draws ≡ keys t.ends ++ held_list t.held) × Rising 0 t.draws × (t.marked ≡ true → t.held ≡ None)

  -- ---- all seats of a ledger

  -- each seat is at this table
  abbrev pub OfTable : TableId → List (SeatView R) → Type 0
  OfTable id ts = All (λ t. t.table ≡ id) ts

  abbrev pub AllInOrder : List (SeatView R) → Type 0
  AllInOrder [] = ⊤
  AllInOrder (t ∷ ts) = InOrder t × AllInOrder ts

  abbrev pub SomeMarked : List (SeatView R) → Type 0
  SomeMarked [] = ⊥
  SomeMarked (t ∷ ts) = elim t.marked as (λ _. Type 0) [ true ↦ ⊤ | false ↦ SomeMarked ts ]

  abbrev pub all_draws : List (SeatView R) → List ℕ
  all_draws [] = []
  all_draws (t ∷ ts) = t.draws ++ all_draws ts

  abbrev pub all_ends : List (SeatView R) → List (ℕ × Entry R)
  all_ends [] = []
  all_ends (t ∷ ts) = t.ends ++ all_ends ts

  -- each number that was ended shows what was put there
  abbrev pub Shows : List (Entry R) → List (ℕ × Entry R) → Type 0
  Shows entries [] = ⊤
  Shows entries (x ∷ xs) = (slice_get entries x.0 ≡ Some x.1) × Shows entries xs

  -- What the entries show when all seats came back. The seats drew each number below the count once and no
  -- other, and all numbers if some seat was answered None. A number shows what a seat put there; one that was
  -- drawn and not ended is Held, and one from the count on is Undrawn.
  pub record Settles (count trials : ℕ) (seats : List (SeatView R)) (entries : List (Entry R)) : Type 0 where
    pub long : length entries ≡ trials
    pub within : count ≤ trials
    pub once : (k : ℕ) → k < count → times k (all_draws seats) ≡ 1
    pub never : (k : ℕ) → count ≤ k → times k (all_draws seats) ≡ 0
    pub full : SomeMarked seats → count ≡ trials
    pub in_order : AllInOrder seats
    pub ended : Shows entries (all_ends seats)
    pub held : (k : ℕ) → k < count → times k (keys (all_ends seats)) ≡ 0 → slice_get entries k ≡ Some Held
    pub undrawn : (k : ℕ) → count ≤ k → k < trials → slice_get entries k ≡ Some Undrawn
