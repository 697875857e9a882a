use Rattle.std.proofs.Common.{length}
use Rattle.pst_judge.proofs.unknown_calls.+append_known_events.Given as goal

abbrev pub decreases-append_known_events : goal.decreases-append_known_events
decreases-append_known_events l = length l.commands.now
