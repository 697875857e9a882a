use Rattle.std.proofs.Common.{◌≡◌, ◌≤◌, true, length, drop}
use Rattle.pst_grid.specs.DoneCounts.{are_small, word_of}
use Rattle.pst_grid.proofs.position.pack_done_counts_if_small.Given as goal

abbrev pub invariant-loop-branch : goal.invariant-loop-branch
invariant-loop-branch l = record {
  few : length l.done ≤ 4;
  small : are_small (drop l.branch l.done) ≡ true;
  word : l.word ≡ word_of (drop l.branch l.done);
}
