use Rattle.std.proofs.Common.{length}
use Rattle.pst_runs.proofs.write.times.+prove_branches_are_small.Given as goal

abbrev pub decreases-prove_branches_are_small : goal.decreases-prove_branches_are_small
decreases-prove_branches_are_small l = length l.branches.now
