use Rattle.std.proofs.Common.{subst, sym, ◌∙◌}
use Rattle.pst_cli.proofs.FailingRuns.{sound_fails}
use Rattle.pst_trial.specs.Sound.{IsSound}
use Rattle.pst_trial.specs.declared.record.TrialOutcome.{TrialOutcome}
use Rattle.pst_cli.proofs.failing_run.shrinking_of_failed_trial.Goals as goal

pub returns-in-Failed-clause-failing : goal.returns-in-Failed-clause-failing
returns-in-Failed-clause-failing c =
    let Sound : TrialOutcome → Type 0 = λ o. IsSound c.args.done.now.plan c.args.done.now.number o in
    sound_fails c.args.done.now.plan c.args.done.now.number c.in-Failed.earlier c.in-Failed.shrunk
    (subst Sound (sym c.outcome.ensures.same ∙ c.in-Failed.is) c.outcome.ensures.sound)
