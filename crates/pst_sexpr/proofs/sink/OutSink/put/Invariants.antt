use Rattle.std.proofs.Common.{◌≡◌, false}
use Rattle.std.specs.Io.KnownBytes.{Keeps}
use Rattle.pst_sexpr.proofs.sink.OutSink.put.Given as goal

abbrev pub invariant-loop-turn : goal.invariant-loop-turn
invariant-loop-turn g l = Keeps (g.W.Write.contents l.initial.self.writer) (g.W.Write.contents l.self.writer) × (l.self.failed ≡ false)
