use Rattle.std.proofs.Common.{◌≡◌, ◌<◌, vec_len, false}
use Rattle.pst_cli.proofs.Streaming.{HasCome}
use Rattle.pst_cli.proofs.stream.judge_stream_and_write_lines.Given as goal

abbrev pub invariant-loop-turn : goal.invariant-loop-turn
invariant-loop-turn g l = record {
  room : 0 < vec_len l.buffer;
  stands : g.W.Sink.broken l.sink ≡ false;
  come : HasCome l.judge.order l.judge.callbacks.now (g.I.BlockSource.remaining l.initial.source) (g.I.BlockSource.remaining l.source) (g.W.Sink.taken l.initial.sink)
      (g.W.Sink.taken l.sink) (g.W.Sink.broken l.sink) l.kept.items l.written;
}
