use Rattle.std.specs.Arc.{arc_value}
use Rattle.pst_campaign.proofs.Before.{worked_before}
use Rattle.pst_campaign.proofs.crews.run_trials_with_or_without_crew.Goals as goal

pub returns-in-Err : goal.returns-in-Err
returns-in-Err g c =
    worked_before c.in-Err.ensures.kept (arc_value c.args.plan.now) (g.K.StopCondition.may_end c.args.watch.now)
    c.args.ledger.now.table c.run_trials_at_own_seat.result c.run_trials_at_own_seat.ensures
