use Rattle.std.proofs.Common.{◌+◌, ◌-◌, ◌*◌, sum}
use Rattle.pst_grid.proofs.Completing.{BeginsBelow}
use Rattle.pst_grid.specs.Kept.{IsFresh}
use Rattle.pst_grid.specs.Remembered.{HasCoveredAll, IsGrown}
use Rattle.pst_grid.proofs.remembering_search.+search.Given as goal

abbrev pub decreases-explore_unless_remembered : goal.decreases-explore_unless_remembered
decreases-explore_unless_remembered g l = 2 * (sum l.lengths.now - sum l.search.now.done.items) + 1

abbrev pub decreases-explore_branch : goal.decreases-explore_branch
decreases-explore_branch g l = 2 * (sum l.lengths.now - sum l.search.now.done.items)

abbrev pub invariant-explore_unless_remembered-loop-branch : goal.invariant-explore_unless_remembered-loop-branch
invariant-explore_unless_remembered-loop-branch g l =
    let here = l.initial.search in
    record {
      fresh : IsFresh l.goal l.search.best;
      covered : HasCoveredAll (g.S.Steps.outcome l.steps) (g.S.Steps.rest l.steps) l.goal (g.O.Order.order l.order) l.lengths (sum here.done.items + 1) l.state (BeginsBelow (g.O.Order.order l.order) l.lengths here.done.items l.branch) here l.search l.seen.keys;
      grown : IsGrown (g.S.Steps.outcome l.steps) l.lengths (g.S.Steps.most_rest l.steps) l.branch (sum here.done.items + 1) here.done.items l.state l.initial.seen.keys l.seen.keys here.steps l.search.steps;
    }
