use Rattle.std.proofs.Common.{take}
use Rattle.pst_sexpr.specs.Grammar.{IsWordBytes}
use Rattle.pst_sexpr.proofs.scan.leading_word_bytes.Given as goal

abbrev pub invariant-loop-place : goal.invariant-loop-place
invariant-loop-place l = IsWordBytes (take l.place l.bytes)
