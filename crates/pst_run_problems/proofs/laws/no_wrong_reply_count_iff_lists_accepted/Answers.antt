use Rattle.pst_run_problems.proofs.Counted.{counted}
use Rattle.pst_run_problems.proofs.laws.no_wrong_reply_count_iff_lists_accepted.Goals as goal

pub returns : goal.returns
returns c = counted
