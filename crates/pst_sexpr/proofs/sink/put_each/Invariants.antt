use Rattle.std.proofs.Common.{drop}
use Rattle.pst_sexpr.specs.Writing.{joined}
use Rattle.pst_sexpr.proofs.Sequence.{WritesUpTo}
use Rattle.pst_sexpr.proofs.sink.put_each.Given as goal

abbrev pub invariant-loop-part : goal.invariant-loop-part
invariant-loop-part g l = WritesUpTo (g.W.Sink.taken l.initial.sink) (g.W.Sink.taken l.sink) (g.W.Sink.broken l.sink) (joined l.parts) (joined (drop l.part-index l.parts))
