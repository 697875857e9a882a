use Rattle.std.proofs.lemmas.List.Elements.{All-push}
use Rattle.pst_driver.proofs.bursts.+histories_of_drives.Goals as goal
use Rattle.pst_driver.specs.Bursts.{IsBurstHistory}

pub returns-in_ok-push-in-Some-3 : goal.returns-in_ok-push-in-Some-3
returns-in_ok-push-in-Some-3 g t c =
    rw c.in_ok-push-in-Some-3.ensures.ok
    (All-push (IsBurstHistory g.J.Relations.answering g.J.Relations.failing c.args.valid.now) _ _
    (rw c.in-Some-2.is at c.in_ok-histories.ensures) (rw c.in-Some-3.is at c.in_ok-history.ensures))
