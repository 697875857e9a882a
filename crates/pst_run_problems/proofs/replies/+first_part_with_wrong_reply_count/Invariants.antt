use Rattle.std.proofs.Common.{length}
use Rattle.pst_run_problems.proofs.replies.+first_part_with_wrong_reply_count.Given as goal

abbrev pub decreases-first_part_with_wrong_reply_count : goal.decreases-first_part_with_wrong_reply_count
decreases-first_part_with_wrong_reply_count l = length l.parts.now
