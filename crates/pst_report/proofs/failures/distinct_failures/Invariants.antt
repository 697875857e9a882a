use Rattle.pst_report.specs.Distinct.{AreDistinctBelow}
use Rattle.pst_report.proofs.failures.distinct_failures.Given as goal

abbrev pub invariant-loop-number : goal.invariant-loop-number
invariant-loop-number l = AreDistinctBelow l.number l.entries l.failures.items
