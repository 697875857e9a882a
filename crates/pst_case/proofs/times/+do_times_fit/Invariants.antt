use Rattle.std.proofs.Common.{length}
use Rattle.pst_case.proofs.times.+do_times_fit.Given as goal

abbrev pub decreases-do_times_fit : goal.decreases-do_times_fit
decreases-do_times_fit l = length l.counts.now
