use Rattle.pst_judge.proofs.InTime.{real_time_is_in_time}
use Rattle.pst_judge.proofs.laws.real_time_is_order_in_time.Goals as goal

pub returns : goal.returns
returns c = real_time_is_in_time
