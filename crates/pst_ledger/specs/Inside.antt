-- What a seat keeps, and what closing makes of it.
use Rattle.std.specs.Prelude.{◌≡◌, ℕ, ◌≤◌, true, List, [], ◌∷◌, ◌++◌, Option, Some, None, vec_capacity}
use Rattle.pst_ledger.specs.declared.entry.Entry.{Entry}
use Rattle.pst_ledger.specs.declared.entry.Entry.TheVariants.{Undrawn, Held}
use Rattle.pst_ledger.specs.declared.seat.View.{View}
use Rattle.pst_ledger.specs.declared.seat.Seat.TheInside as seat
use Rattle.pst_ledger.specs.Count.{one_if, keys}
use Rattle.pst_ledger.specs.Rule.{fresh, together}
use Rattle.pst_ledger.specs.Seats.{SeatView, Rising, held_list}

-- the slots that are out with a seat that holds this
abbrev pub slots_of : {R : Type 0} → Option ℕ → List (ℕ × Entry R)
slots_of None = []
slots_of (Some k) = (k, Undrawn) ∷ []

-- what closing puts at a number that is still held
abbrev pub held_ends : {R : Type 0} → Option ℕ → List (ℕ × Entry R)
held_ends None = []
held_ends (Some k) = (k, Held) ∷ []

module _ {R : Type 0} where
  -- what contracts see of a seat
  abbrev pub view_of : seat.Inside R → SeatView R
  view_of s = record {
    table = s.token.table_id;
    draws = s.draws.items;
    ends = s.token.me.0.ends;
    held = s.held;
    marked = s.marked;
  }

  -- the token knows what the seat does, the draws rise, and there is room for a draw of every number
  pub record IsSound (s : seat.Inside R) : Type 0 where
    pub draws : s.token.me.0.draws ≡ s.draws.items
    pub part : s.token.me.0.parts ≡ 1
    pub mark : s.token.me.0.marks ≡ one_if s.marked
    pub slots : s.token.me.1 ≡ slots_of s.held
    pub order : s.draws.items ≡ keys s.token.me.0.ends ++ held_list s.held
    pub rising : Rising 0 s.draws.items
    pub rests : s.marked ≡ true → s.held ≡ None
    pub room : s.token.table_id.slots ≤ vec_capacity s.draws

  -- the view of a seat that came back, where a number that it held is Held
  abbrev pub settled : SeatView R → View R
  settled t =
      record { parts = 1; marks = one_if t.marked; draws = t.draws; ends = t.ends ++ held_ends t.held }

  -- the view of all seats together
  abbrev pub gathered : List (SeatView R) → View R
  gathered [] = fresh 0
  gathered (t ∷ ts) = together (gathered ts) (settled t)
