use Rattle.std.proofs.Common.{length}
use Rattle.pst_clients.proofs.clients.Clients.+told_calls.Given as goal

abbrev pub decreases-told_calls : goal.decreases-told_calls
decreases-told_calls g l = length l.calls.now
