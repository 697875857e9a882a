use Rattle.std.proofs.Common.{◌≡◌, take}
use Rattle.pst_driver.proofs.branches.copy_known_results.Given as goal

abbrev pub invariant-loop-one : goal.invariant-loop-one
invariant-loop-one l = l.copies.items ≡ take l.one-index l.known
