use Rattle.std.proofs.Common.{arith}
use Rattle.pst_sexpr.proofs.Skips.{front_is_span, word_next}
use Rattle.pst_sexpr.proofs.scan.leading_word_bytes.Goals as goal

pub returns-then-not-is_word_byte-clause-front : goal.returns-then-not-is_word_byte-clause-front
returns-then-not-is_word_byte-clause-front c = front_is_span c.args.bytes.now c.loop-place.place

pub loop-place-preserved : goal.loop-place-preserved
loop-place-preserved c = word_next c.args.bytes.now c.loop-place.place (omega arith) c.loop-place.invariant (cc)
