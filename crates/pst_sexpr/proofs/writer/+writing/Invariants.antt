use Rattle.std.proofs.Common.{drop, map}
use Rattle.pst_sexpr.specs.Spelling.{spaced, spelling}
use Rattle.pst_sexpr.proofs.Sequence.{WritesUpTo}
use Rattle.pst_sexpr.proofs.Spelled.{left_of}
use Rattle.pst_sexpr.proofs.writer.+writing.Given as goal

abbrev pub invariant-write_forms_with_spaces-loop-place : goal.invariant-write_forms_with_spaces-loop-place
invariant-write_forms_with_spaces-loop-place g l =
    WritesUpTo (g.W.Sink.taken l.initial.sink) (g.W.Sink.taken l.sink) (g.W.Sink.broken l.sink)
    (spaced (map spelling l.forms)) (left_of l.place (map spelling (drop l.place l.forms)))
