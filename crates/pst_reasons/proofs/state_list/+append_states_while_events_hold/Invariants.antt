use Rattle.std.proofs.Common.{length}
use Rattle.pst_reasons.proofs.state_list.+append_states_while_events_hold.Given as goal

abbrev pub decreases-append_states_while_events_hold : goal.decreases-append_states_while_events_hold
decreases-append_states_while_events_hold g l = length l.events.now
