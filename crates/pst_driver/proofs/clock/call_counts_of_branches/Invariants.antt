use Rattle.std.proofs.Common.{◌≡◌, map, take}
use Rattle.pst_case.specs.Times.{called}
use Rattle.pst_driver.proofs.clock.call_counts_of_branches.Given as goal

abbrev pub invariant-loop-branch : goal.invariant-loop-branch
invariant-loop-branch l = l.counts.items ≡ map called (take l.branch-index l.branches)
