use Rattle.std.proofs.Common.{◌≡◌, take}
use Rattle.pst_clients.proofs.burst.copy_made_calls.Given as goal

abbrev pub invariant-loop-call : goal.invariant-loop-call
invariant-loop-call l = l.copies ≡ take l.call-index l.calls
