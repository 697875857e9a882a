use Rattle.std.proofs.Common.{length}
use Rattle.pst_sexpr.proofs.Sequence.{WritesUpTo}
use Rattle.pst_sexpr.proofs.sink.put_all.Given as goal

abbrev pub invariant-loop-bytes : goal.invariant-loop-bytes
invariant-loop-bytes g l = WritesUpTo (g.W.Sink.taken l.initial.sink) (g.W.Sink.taken l.sink) (g.W.Sink.broken l.sink) l.fn.bytes l.bytes

abbrev pub decreases-loop-bytes : goal.decreases-loop-bytes
decreases-loop-bytes g l = length l.bytes
