use Rattle.std.proofs.Common.{length}
use Rattle.pst_judge.proofs.unknown_calls.+append_branch_calls.Given as goal

abbrev pub decreases-append_branch_calls : goal.decreases-append_branch_calls
decreases-append_branch_calls l = length l.branches.now
