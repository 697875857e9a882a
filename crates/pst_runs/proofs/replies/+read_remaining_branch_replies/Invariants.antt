use Rattle.std.proofs.Common.{length}
use Rattle.pst_runs.proofs.replies.+read_remaining_branch_replies.Given as goal

abbrev pub decreases-read_remaining_branch_replies : goal.decreases-read_remaining_branch_replies
decreases-read_remaining_branch_replies l = length l.branches.now
