use Rattle.std.proofs.Common.{length}
use Rattle.pst_runs.specs.Lawful.{AreLawful}
use Rattle.pst_messages.proofs.preconditions.add_runs_with_false_preconditions.Given as goal

abbrev pub invariant-loop-run : goal.invariant-loop-run
invariant-loop-run g l = AreLawful (g.C.Callbacks.model l.callbacks) l.rest

abbrev pub decreases-loop-run : goal.decreases-loop-run
decreases-loop-run g l = length l.rest
