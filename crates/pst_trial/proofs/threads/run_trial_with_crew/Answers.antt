use Rattle.std.proofs.lemmas.Result.{IfOk-weaker}
use Rattle.pst_trial.proofs.Sounding.{sound_of_model}
use Rattle.pst_trial.proofs.threads.run_trial_with_crew.Goals as goal

pub returns-clause-driven : goal.returns-clause-driven
returns-clause-driven g c =
    IfOk-weaker c.run_trial_with_driver.result _ _
    (λ r sound. sound_of_model _ g.J.Relations.model _ c.args.number r.outcome c.requires.model sound)
    c.run_trial_with_driver.ensures.driven
