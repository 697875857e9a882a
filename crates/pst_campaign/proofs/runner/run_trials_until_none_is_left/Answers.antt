use Rattle.pst_campaign.proofs.Given.{always}
use Rattle.pst_campaign.proofs.runner.run_trials_until_none_is_left.Goals as goal

pub returns-clause-marked : goal.returns-clause-marked
returns-clause-marked g c = always c.run_trials_until_campaign_over.ensures.marked
