use Rattle.std.proofs.Common.{◌≡◌}
use Rattle.std.specs.Prelude.{vec_capacity, replicate}
use Rattle.pst_ledger.specs.declared.book.Spot.TheVariants.{Free}
use Rattle.pst_ledger.proofs.book.free_spots.Given as goal

abbrev pub invariant-loop : goal.invariant-loop
invariant-loop g l = record { pushed : l.spots.items ≡ replicate l.counter Free; room : vec_capacity l.spots ≡ l.trials }
