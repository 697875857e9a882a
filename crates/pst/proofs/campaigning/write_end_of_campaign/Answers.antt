use Rattle.pst.proofs.Endings.{lost_of_both}
use Rattle.pst.proofs.campaigning.write_end_of_campaign.Goals as goal

pub returns : goal.returns
returns g c =
    lost_of_both c.write_files_if_wanted-written.result c.save_failures_if_wanted-saved.result c.or_worse.result
    c.write_files_if_wanted-written.ensures c.save_failures_if_wanted-saved.ensures c.or_worse.ensures
