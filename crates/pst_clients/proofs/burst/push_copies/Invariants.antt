use Rattle.std.proofs.Common.{◌≡◌, ◌++◌, take}
use Rattle.pst_clients.proofs.burst.push_copies.Given as goal

abbrev pub invariant-loop-call : goal.invariant-loop-call
invariant-loop-call l = l.calls ≡ l.initial.calls ++ take l.call-index l.more
