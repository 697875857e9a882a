use Rattle.std.proofs.Common.{length}
use Rattle.pst_judge.proofs.replay.+run_events.Given as goal

abbrev pub decreases-run_events : goal.decreases-run_events
decreases-run_events g l = length l.events.now
