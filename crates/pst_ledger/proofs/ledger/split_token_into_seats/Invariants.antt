use Rattle.std.proofs.Common.{◌≡◌, ◌-◌, replicate}
use Rattle.std.specs.Prelude.{vec_capacity}
use Rattle.pst_ledger.specs.Seats.{new_seat}
use Rattle.pst_ledger.specs.Rule.{fresh}
use Rattle.pst_ledger.proofs.ledger.split_token_into_seats.Given as goal

abbrev pub invariant-loop : goal.invariant-loop
invariant-loop g l = record {
  view : l.first.me.0 ≡ fresh (l.seats - l.counter);
  place : l.first.table_id ≡ l.shared.table_id;
  pushed : l.list.items ≡ replicate l.counter (new_seat l.shared.table_id);
  room : vec_capacity l.list ≡ l.seats;
}
