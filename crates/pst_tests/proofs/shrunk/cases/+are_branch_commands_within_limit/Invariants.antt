use Rattle.std.proofs.Common.{length}
use Rattle.pst_tests.proofs.shrunk.cases.+are_branch_commands_within_limit.Given as goal

abbrev pub decreases-are_branch_commands_within_limit : goal.decreases-are_branch_commands_within_limit
decreases-are_branch_commands_within_limit l = length l.branches.now
