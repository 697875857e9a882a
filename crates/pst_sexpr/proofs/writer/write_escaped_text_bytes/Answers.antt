use Rattle.std.proofs.Common.{arith}
use Rattle.pst_sexpr.proofs.Sequence.{then_all, then_fails}
use Rattle.pst_sexpr.proofs.Spelled.{escape_at}
use Rattle.pst_sexpr.proofs.writer.write_escaped_text_bytes.Goals as goal

pub returns-in_err-write_byte_escaped_if_needed : goal.returns-in_err-write_byte_escaped_if_needed
returns-in_err-write_byte_escaped_if_needed g c =
    then_fails _ c.from_residual.ensures.0 c.loop-byte.invariant c.in_err-write_byte_escaped_if_needed.ensures (escape_at c.args.bytes.now c.loop-byte.byte-index (omega arith))

pub loop-byte-preserved : goal.loop-byte-preserved
loop-byte-preserved g c =
    then_all _ c.loop-byte.invariant c.in_ok-write_byte_escaped_if_needed.ensures (escape_at c.args.bytes.now c.loop-byte.byte-index (omega arith))
