use Rattle.pst_campaign.proofs.Given.{if_to_the_end}
use Rattle.pst_campaign.proofs.campaigns.campaign.Goals as goal

pub returns-clause-given : goal.returns-clause-given
returns-clause-given g c = if_to_the_end _ c.args.systems.items c.campaign_until.result c.campaign_until.ensures.given
