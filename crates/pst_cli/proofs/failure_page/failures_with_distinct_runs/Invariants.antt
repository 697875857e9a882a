use Rattle.std.proofs.Common.{drop, length}
use Rattle.pst_cli.specs.CampaignFailures.{AreFailuresBelow, IsSmallestIfAny, head_of}
use Rattle.pst_cli.specs.Page.{AreFailing}
use Rattle.pst_report.specs.InOrder.{AreOf}
use Rattle.pst_cli.proofs.failure_page.failures_with_distinct_runs.Given as goal

abbrev pub invariant-loop-trial : goal.invariant-loop-trial
invariant-loop-trial l = record {
  failures : AreFailuresBelow l.trial 100 l.entries l.failures.items;
  failing : AreFailing l.plan l.failures.items;
  first : IsSmallestIfAny (length l.entries) l.entries (head_of l.failures.items);
  records : AreOf l.plan l.trial (drop l.trial l.entries);
}
