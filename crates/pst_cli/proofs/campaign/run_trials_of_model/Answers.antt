use Rattle.pst_cli.proofs.Campaigning.{is_complete, is_end_for}
use Rattle.pst_cli.proofs.campaign.run_trials_of_model.Goals as goal

pub new-requires : goal.new-requires
new-requires g c =
    let plans = c.in-Ok.ensures in
    let ended = c.in-Ok-campaign_until.ensures in
    is_complete (g.K.StopCondition.may_end c.args.watch.now) _ _ _ c.args.settings c.args.systems.items c.args.typed _ _ _ plans.0 plans.1 ended.count ended.given

pub returns-in-Ok-campaign_until-clause-end : goal.returns-in-Ok-campaign_until-clause-end
returns-in-Ok-campaign_until-clause-end g c =
    let plans = c.in-Ok.ensures in
    let ended = c.in-Ok-campaign_until.ensures in
    rw c.new.ensures
    (is_end_for (g.K.StopCondition.may_end c.args.watch.now) _ _ _ c.args.settings c.args.systems.items c.args.typed _ _ _ plans.0 plans.1 ended.count ended.given ended.number)
