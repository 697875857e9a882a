use Rattle.std.proofs.Common.{length}
use Rattle.pst_runs.proofs.replies.+read_remaining_replies.Given as goal

abbrev pub decreases-read_remaining_replies : goal.decreases-read_remaining_replies
decreases-read_remaining_replies l = length l.commands.now
