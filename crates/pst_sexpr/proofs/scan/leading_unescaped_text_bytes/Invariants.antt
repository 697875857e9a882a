use Rattle.std.proofs.Common.{take}
use Rattle.pst_sexpr.specs.Spans.{ArePlain}
use Rattle.pst_sexpr.proofs.scan.leading_unescaped_text_bytes.Given as goal

abbrev pub invariant-loop-place : goal.invariant-loop-place
invariant-loop-place l = ArePlain (take l.place l.bytes)
