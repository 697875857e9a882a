use Rattle.std.proofs.Common.{◌≡◌, take}
use Rattle.pst_runs.specs.Written.{run_forms}
use Rattle.pst_runs.proofs.write.writer.run_trees.Given as goal

abbrev pub invariant-loop-run : goal.invariant-loop-run
invariant-loop-run l = l.trees.items ≡ run_forms l.typed (take l.run-index l.runs)
