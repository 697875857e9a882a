use Rattle.std.proofs.Common.{◌≡◌, ℕ, ◌<◌, ◌≤◌, false, get_or, take}
use Rattle.std.specs.Prelude.{vec_capacity}
use Rattle.std.specs.Slots.{slots_items, slots_filled, slots_len}
use Rattle.std.specs.Slots.Ownership.{Filled}
use Rattle.pst_ledger.proofs.entry.take_entries_and_free_table.Given as goal

abbrev pub invariant-loop-k : goal.invariant-loop-k
invariant-loop-k g l = record {
  left : Filled (slots_filled l.closed.slots) l.k (slots_len l.closed.slots);
  taken : (j : ℕ) → j < l.k → get_or (slots_filled l.closed.slots) j false ≡ false;
  same : slots_items l.closed.slots ≡ slots_items l.fn.closed.slots;
  long : slots_len l.closed.slots ≡ slots_len l.fn.closed.slots;
  moved : l.room.items ≡ take l.k (slots_items l.fn.closed.slots);
  room : slots_len l.closed.slots ≤ vec_capacity l.room;
}
