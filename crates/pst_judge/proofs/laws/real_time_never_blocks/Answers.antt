use Rattle.pst_judge.proofs.Timely.{real-time-never-blocks}
use Rattle.pst_judge.proofs.laws.real_time_never_blocks.Goals as goal

pub returns : goal.returns
returns c = real-time-never-blocks
