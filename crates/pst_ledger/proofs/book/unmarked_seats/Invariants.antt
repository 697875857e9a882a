use Rattle.std.proofs.Common.{◌≡◌}
use Rattle.std.specs.Prelude.{vec_capacity, replicate}
use Rattle.std.proofs.Common.{false}
use Rattle.pst_ledger.proofs.book.unmarked_seats.Given as goal

abbrev pub invariant-loop : goal.invariant-loop
invariant-loop l = record { pushed : l.marks.items ≡ replicate l.counter false; room : vec_capacity l.marks ≡ l.seats }
