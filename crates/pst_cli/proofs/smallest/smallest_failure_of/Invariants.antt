use Rattle.std.proofs.Common.{drop}
use Rattle.std.specs.Prelude.{IfSome}
use Rattle.pst_cli.specs.CampaignFailures.{IsFailingRun, IsSmallestIfAny}
use Rattle.pst_report.specs.InOrder.{AreOf}
use Rattle.pst_cli.proofs.smallest.smallest_failure_of.Given as goal

abbrev pub invariant-loop-trial : goal.invariant-loop-trial
invariant-loop-trial l = record {
  smallest : IsSmallestIfAny l.trial l.entries l.found;
  failing : IfSome l.found (λ f. IsFailingRun l.plan f.shrunk.now.last);
  records : AreOf l.plan l.trial (drop l.trial l.entries);
}
