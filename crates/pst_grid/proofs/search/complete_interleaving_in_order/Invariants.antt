use Rattle.std.proofs.Common.{◌-◌, sum}
use Rattle.pst_grid.proofs.Opening.{IsFilling}
use Rattle.pst_grid.proofs.search.complete_interleaving_in_order.Given as goal

abbrev pub decreases-loop-branch : goal.decreases-loop-branch
decreases-loop-branch g l = sum l.lengths - sum l.done.items

abbrev pub invariant-loop-branch : goal.invariant-loop-branch
invariant-loop-branch g l = IsFilling (g.O.Order.order l.order) l.lengths l.fn.done.items l.done.items l.fn.word.items l.whole.items
