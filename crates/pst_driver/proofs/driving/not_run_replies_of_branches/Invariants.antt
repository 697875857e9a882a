use Rattle.std.proofs.Common.{◌≡◌, map, take}
use Rattle.pst_driver.specs.Driven.{none_run}
use Rattle.pst_driver.proofs.driving.not_run_replies_of_branches.Given as goal

abbrev pub invariant-loop-branch : goal.invariant-loop-branch
invariant-loop-branch l = l.all ≡ map none_run (take l.branch-index l.branches)
