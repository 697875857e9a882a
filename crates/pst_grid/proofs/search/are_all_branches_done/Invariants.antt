use Rattle.std.proofs.Common.{ℕ, ◌<◌, ◌≤◌, slice_index}
use Rattle.pst_grid.proofs.search.are_all_branches_done.Given as goal

abbrev pub invariant-loop-branch : goal.invariant-loop-branch
invariant-loop-branch l = (b : ℕ) → b < l.branch → slice_index l.lengths b ≤ slice_index l.done b
