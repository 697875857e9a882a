use Rattle.std.proofs.Common.{take}
use Rattle.pst_runs.specs.ReadAgain.{AreRead}
use Rattle.pst_runs.proofs.write.writer.prove_runs_are_read_back.Given as goal

abbrev pub invariant-loop-run : goal.invariant-loop-run
invariant-loop-run l = AreRead l.typed (take l.run-index l.runs)
