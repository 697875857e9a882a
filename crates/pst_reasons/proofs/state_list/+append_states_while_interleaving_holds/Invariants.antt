use Rattle.std.proofs.Common.{length}
use Rattle.pst_reasons.proofs.state_list.+append_states_while_interleaving_holds.Given as goal

abbrev pub decreases-append_states_while_interleaving_holds : goal.decreases-append_states_while_interleaving_holds
decreases-append_states_while_interleaving_holds g l = length l.word.now
