use Rattle.std.proofs.Common.{◌≡◌, None}
use Rattle.pst_thread_tests.proofs.ledgers.seats.claim_and_deposit_until_none_left.Given as goal

abbrev pub invariant-loop : goal.invariant-loop
invariant-loop g l = (l.seat.held ≡ None) × (l.seat.table ≡ l.fn.seat.table)
