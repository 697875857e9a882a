use Rattle.std.proofs.Common.{◌≡◌, drop}
use Rattle.pst_report.specs.InOrder.{AreOf}
use Rattle.pst_report.specs.Least.{least_failure}
use Rattle.pst_report.proofs.failures.first_failed_trial.Given as goal

abbrev pub invariant-loop-number : goal.invariant-loop-number
invariant-loop-number l = record {
  least : least_failure 0 l.entries ≡ least_failure l.number (drop l.number l.entries);
  records : AreOf l.plan l.number (drop l.number l.entries);
}
