use Rattle.std.proofs.Common.{length}
use Rattle.pst_judge.proofs.unknown_calls.+append_unknown_events.Given as goal

abbrev pub decreases-append_unknown_events : goal.decreases-append_unknown_events
decreases-append_unknown_events l = length l.commands.now
