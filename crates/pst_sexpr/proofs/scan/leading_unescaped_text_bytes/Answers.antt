use Rattle.std.proofs.Common.{arith}
use Rattle.pst_sexpr.proofs.Skips.{front_is_span, plain_next}
use Rattle.pst_sexpr.proofs.scan.leading_unescaped_text_bytes.Goals as goal

pub returns-then-not-is_text_byte-clause-front : goal.returns-then-not-is_text_byte-clause-front
returns-then-not-is_text_byte-clause-front c = front_is_span c.args.bytes.now c.loop-place.place

pub loop-place-preserved : goal.loop-place-preserved
loop-place-preserved c = plain_next c.args.bytes.now c.loop-place.place (omega arith) c.loop-place.invariant (cc)
