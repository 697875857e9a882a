use Rattle.std.proofs.Common.{ℕ, ◌<◌, get_or}
use Rattle.pst_cli.specs.CampaignFailures.{HasRun}
use Rattle.pst_cli.specs.declared.failing_run.TrialFailure.{TrialFailure}
use Rattle.pst_cli.proofs.failure_page.has_failure_with_run.Given as goal

abbrev pub invariant-loop-failure : goal.invariant-loop-failure
invariant-loop-failure l = (k : ℕ) (d : TrialFailure) → k < l.failure-index → HasRun l.shrunk (get_or l.failures k d) → ⊥
