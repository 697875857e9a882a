use Rattle.pst_cli.proofs.FailingRuns.{by_plan}
use Rattle.pst_cli.specs.CampaignFailures.{IsFailingRun}
use Rattle.pst_cli.proofs.failing_run.shrinking_of_entry.Goals as goal

pub returns-in-Done-clause-failing : goal.returns-in-Done-clause-failing
returns-in-Done-clause-failing c =
    by_plan (λ p s. IsFailingRun p s.now.last) c.in-Done.done c.args.entry.now c.in-Done.is
    c.shrinking_of_failed_trial.result c.shrinking_of_failed_trial.ensures.failing
