use Rattle.pst_rejudge.proofs.Splitting.{Splits}
use Rattle.pst_rejudge.proofs.stream_reading.split_bytes_into_lines.Given as goal

abbrev pub invariant-loop-byte : goal.invariant-loop-byte
invariant-loop-byte l =
    Splits l.limit l.initial.kept.items l.kept.items l.initial.lines.items l.lines.items l.bytes l.byte-index
