use Rattle.std.proofs.Common.{length}
use Rattle.pst_runs.proofs.replies.+branch_reply_counts_match.Given as goal

abbrev pub decreases-branch_reply_counts_match : goal.decreases-branch_reply_counts_match
decreases-branch_reply_counts_match l = length l.branches.now
