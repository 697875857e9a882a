use Rattle.pst.proofs.Endings.{lost_of_both}
use Rattle.pst.proofs.campaigning.write_files_if_wanted.Goals as goal

pub returns : goal.returns
returns g c =
    lost_of_both c.write_page_if_wanted-page.result c.write_junit_xml_if_wanted-junit.result c.or_worse.result
    c.write_page_if_wanted-page.ensures c.write_junit_xml_if_wanted-junit.ensures c.or_worse.ensures
