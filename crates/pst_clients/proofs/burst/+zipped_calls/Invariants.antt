use Rattle.std.proofs.Common.{length}
use Rattle.pst_clients.proofs.burst.+zipped_calls.Given as goal

abbrev pub decreases-zipped_calls : goal.decreases-zipped_calls
decreases-zipped_calls l = length l.answers.now
