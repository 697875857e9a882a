use Rattle.std.proofs.Common.{ℕ, ◌<◌}
use Rattle.pst_grid.specs.Orders.{IsOpen}
use Rattle.pst_grid.proofs.search.first_open_branch.Given as goal

abbrev pub invariant-loop-branch : goal.invariant-loop-branch
invariant-loop-branch g l = (c : ℕ) → c < l.branch → IsOpen (g.O.Order.order l.order) l.lengths l.done c → ⊥
