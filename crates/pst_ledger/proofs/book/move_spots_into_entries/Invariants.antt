use Rattle.std.proofs.Common.{◌≡◌, ◌≤◌, ◌++◌, map, length}
use Rattle.std.specs.Prelude.{vec_capacity}
use Rattle.std.specs.Vec.Iter.{into_iter_items, into_iter_len}
use Rattle.pst_ledger.specs.Core.{shown}
use Rattle.pst_ledger.proofs.book.move_spots_into_entries.Given as goal

abbrev pub invariant-loop-spot : goal.invariant-loop-spot
invariant-loop-spot g l = record {
  all : l.yielded ++ into_iter_items l.spot-iterator ≡ into_iter_items l.initial.spot-iterator;
  pushed : l.room.items ≡ map shown l.yielded;
  long : into_iter_len l.spot-iterator ≡ length (into_iter_items l.spot-iterator);
  room : length (into_iter_items l.initial.spot-iterator) ≤ vec_capacity l.room;
}
