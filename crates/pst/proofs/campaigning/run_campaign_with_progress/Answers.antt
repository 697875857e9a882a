use Rattle.pst.proofs.campaigning.run_campaign_with_progress.Goals as goal

pub returns : goal.returns
returns g c = rw (c.new.ensures.limit, c.new.ensures.signal) at c.report_campaign.ensures.prints
