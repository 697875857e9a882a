use Rattle.std.proofs.Common.{length}
use Rattle.pst_judge.proofs.events.+append_events_while_replies_are_values.Given as goal

abbrev pub decreases-append_events_while_replies_are_values : goal.decreases-append_events_while_replies_are_values
decreases-append_events_while_replies_are_values l = length l.commands.now
