use Rattle.pst_trial.proofs.Bursts.{first_of, rest_of}
use Rattle.pst_trial.proofs.attempts.split_driven.Goals as goal
use Rattle.pst_trial.specs.Driving.{MayHaveDriven}

pub returns-clause-first : goal.returns-clause-first
returns-clause-first g c =
    first_of (MayHaveDriven (g.D.Driver.may_drive c.args._driver.now) c.args._valid.now) c.args.histories.now c.requires
    c.split_first_history.result (λ p. p.0.now) (λ p. p.1.now) c.split_first_history.ensures

pub returns-clause-rest : goal.returns-clause-rest
returns-clause-rest g c =
    rest_of (MayHaveDriven (g.D.Driver.may_drive c.args._driver.now) c.args._valid.now) c.args.histories.now c.requires
    c.split_first_history.result (λ p. p.0.now) (λ p. p.1.now) c.split_first_history.ensures
