use Rattle.std.proofs.Common.{◌≡◌, ◌≤◌, ◌-◌, false}
use Rattle.pst_cli.specs.Generating.{AreWritten}
use Rattle.pst_cli.specs.declared.answer.Status.TheVariants.{Accepted}
use Rattle.pst_cli.proofs.generate.generate_and_write_cases_in_blocks.Given as goal

abbrev pub invariant-loop-next : goal.invariant-loop-next
invariant-loop-next g l = record {
  above : l.first ≤ l.next;
  below : l.next ≤ l.behind;
  stands : g.W.Sink.broken l.sink ≡ false;
  done : AreWritten l.form l.plan l.first (l.next - l.first) Accepted (g.W.Sink.taken l.initial.sink) (g.W.Sink.taken l.sink) (g.W.Sink.broken l.sink) l.status;
}

abbrev pub decreases-loop-next : goal.decreases-loop-next
decreases-loop-next g l = l.behind - l.next
