use Rattle.std.proofs.Common.{refl}
use Rattle.pst.proofs.Endings.{lost_only_if}
use Rattle.pst.proofs.campaigning.write_junit_xml_if_wanted.Goals as goal

pub returns-in-Some : goal.returns-in-Some
returns-in-Some g c = lost_only_if c.write_campaign_junit_xml.result (rw c.in-Some.is refl) c.write_campaign_junit_xml.ensures
