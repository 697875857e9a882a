use Rattle.std.proofs.Common.{◌≡◌, ◌++◌, List, vec_len}
use Rattle.pst_ledger.specs.Seats.{SeatView, OfTable, AllInOrder}
use Rattle.pst_ledger.specs.Inside.{gathered}
use Rattle.pst_ledger.proofs.ledger.Ledger.join_seats_into_token.Given as goal

abbrev pub invariant-loop-seat : goal.invariant-loop-seat
invariant-loop-seat g l = (done : List (SeatView _)) × (l.fn.seats.items ≡ l.seats.items ++ done) × (l.all.me.0 ≡ gathered done) × AllInOrder done × (l.all.table_id ≡ l.self.table) × OfTable l.self.table l.seats.items

abbrev pub decreases-loop-seat : goal.decreases-loop-seat
decreases-loop-seat g l = vec_len l.seats
