use Rattle.pst_cli.proofs.Losing.{IsSoFar}
use Rattle.pst_cli.proofs.losses.trials_lost_for_cause.Given as goal

abbrev pub invariant-loop-number : goal.invariant-loop-number
invariant-loop-number l = IsSoFar l.entries l.cause l.number l.lost
