use Rattle.std.proofs.Common.{drop}
use Rattle.pst_sexpr.specs.Spelling.{escape}
use Rattle.pst_sexpr.proofs.Sequence.{WritesUpTo}
use Rattle.pst_sexpr.proofs.writer.write_escaped_text_bytes.Given as goal

abbrev pub invariant-loop-byte : goal.invariant-loop-byte
invariant-loop-byte g l = WritesUpTo (g.W.Sink.taken l.initial.sink) (g.W.Sink.taken l.sink) (g.W.Sink.broken l.sink) (escape l.bytes) (escape (drop l.byte-index l.bytes))
