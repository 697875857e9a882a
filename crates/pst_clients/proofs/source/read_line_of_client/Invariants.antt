use Rattle.std.proofs.Common.{◌≡◌, ◌≢◌, All, length}
use Rattle.std.specs.Io.KnownBytes.{Consumes}
use Rattle.pst_clients.proofs.source.read_line_of_client.Given as goal

abbrev pub invariant-loop : goal.invariant-loop
invariant-loop g l =
    Consumes (g.I.Read.remaining l.initial.reader) (g.I.Read.remaining l.reader) l.line.items × All (λ byte. byte ≢ 10) l.line.items × (length l.line.items ≡ l.counter)
