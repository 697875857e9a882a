use Rattle.std.proofs.Common.{◌≡◌, ◌+◌, ◌*◌, ◌≤◌, map, drop}
use Rattle.std.specs.List.{sum}
use Rattle.pst_syntax.specs.Counting.{trees_in, spent}
use Rattle.pst_syntax.proofs.reader.+room.Given as goal

abbrev pub decreases-room_left_after_tree : goal.decreases-room_left_after_tree
decreases-room_left_after_tree l = 2 * l.room

abbrev pub decreases-room_left_after_trees : goal.decreases-room_left_after_trees
decreases-room_left_after_trees l = 2 * l.room + 1

abbrev pub invariant-room_left_after_trees-loop-form : goal.invariant-room_left_after_trees-loop-form
invariant-room_left_after_trees-loop-form l = record {
  same : spent (sum (map trees_in l.forms)) l.fn.room ≡ spent (sum (map trees_in (drop l.form-index l.forms))) l.room;
  less : l.room ≤ l.fn.room;
}
