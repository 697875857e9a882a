-- The seats that workers begin with, and those that they hand back.
use Rattle.std.specs.Prelude.{◌≡◌, ◌⊎◌, ℕ, true, List, [], Option, None, All}
use Rattle.atomic_table.specs.Seated.{TableId}
use Rattle.pst_ledger.specs.Seats.{SeatView}
use Rattle.pst_ledger.specs.declared.entry.Entry.{Entry}

-- a seat at this table that has ended nothing and holds nothing
pub record IsFresh {R : Type 0} (table : TableId) (seat : SeatView R) : Type 0 where
  pub place : seat.table ≡ table
  pub rests : seat.held ≡ None
  pub unused : seat.ends ≡ []

-- a seat that drew until it was answered None, unless this lets it end before
abbrev pub IsMarked : {R : Type 0} → Type 0 → SeatView R → Type 0
IsMarked may_end seat = (seat.marked ≡ true) ⊎ may_end

-- a seat at this table that drew until it was answered None, unless it may end before, and ended each of its numbers as it
-- may be given
pub record IsWorked {R : Type 0} (may_end : Type 0) (may_give : ℕ → Entry R → Type 0) (table : TableId)
    (seat : SeatView R) : Type 0 where
  pub place : seat.table ≡ table
  pub marked : IsMarked may_end seat
  pub rests : seat.held ≡ None
  pub given : All (λ x. may_give x.0 x.1) seat.ends
