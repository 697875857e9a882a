use Rattle.std.proofs.Common.{◌≡◌}
use Rattle.std.specs.Prelude.{vec_capacity, replicate}
use Rattle.pst_ledger.specs.declared.entry.Entry.TheVariants.{Undrawn}
use Rattle.pst_ledger.proofs.ledger.undrawn.Given as goal

abbrev pub invariant-loop : goal.invariant-loop
invariant-loop g l = record { pushed : l.slots.items ≡ replicate l.counter Undrawn; room : vec_capacity l.slots ≡ l.trials }
