use Rattle.std.proofs.Common.{ℕ, ◌+◌, ◌-◌, ◌*◌, ◌<◌, slice_index, sum}
use Rattle.pst_grid.proofs.Completing.{BeginsBelow}
use Rattle.pst_grid.specs.Covered.{HasCovered}
use Rattle.pst_grid.specs.declared.search.Goal.TheVariants.{ToEnd}
use Rattle.pst_grid.proofs.plain_search.+search.Given as goal

abbrev pub decreases-explore_plainly : goal.decreases-explore_plainly
decreases-explore_plainly g l = 2 * (sum l.lengths.now - sum l.search.now.done.items) + 1

abbrev pub decreases-explore_branch_plainly : goal.decreases-explore_branch_plainly
decreases-explore_branch_plainly g l = 2 * (sum l.lengths.now - sum l.search.now.done.items)

abbrev pub invariant-explore_plainly-loop-branch : goal.invariant-explore_plainly-loop-branch
invariant-explore_plainly-loop-branch g l = record {
  covered : HasCovered (g.S.Steps.outcome l.steps) (g.S.Steps.rest l.steps) ToEnd l.state (BeginsBelow (g.O.Order.order l.order) l.lengths l.initial.search.done.items l.branch) l.initial.search l.search;
  some_left : (b : ℕ) × (slice_index l.initial.search.done.items b < slice_index l.lengths b);
}
