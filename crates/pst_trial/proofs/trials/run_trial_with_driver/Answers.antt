use Rattle.pst_trial.proofs.Sounding.{sound_alone}
use Rattle.pst_trial.proofs.trials.run_trial_with_driver.Goals as goal

pub new-requires : goal.new-requires
new-requires g c =
    rw c.in_ok-shared.ensures
    (sound_alone (g.D.Driver.may_drive c.args.driver.now) _ c.args.number c.in-Ok.outcome
    (rw c.deref.ensures at c.in-Ok.ensures.sound))
