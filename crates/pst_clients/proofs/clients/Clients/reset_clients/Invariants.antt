use Rattle.std.proofs.Common.{◌≡◌, length}
use Rattle.pst_clients.proofs.clients.Clients.reset_clients.Given as goal

abbrev pub invariant-loop : goal.invariant-loop
invariant-loop g l =
    (l.self.results ≡ l.initial.self.results) × (length l.self.connections.items ≡ length l.initial.self.connections.items)
