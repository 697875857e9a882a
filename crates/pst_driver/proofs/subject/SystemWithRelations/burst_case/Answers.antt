use Rattle.pst_driver.proofs.Made.{drives_kept}
use Rattle.pst_driver.proofs.subject.SystemWithRelations.burst_case.Goals as goal

pub returns : goal.returns
returns g c = drives_kept c.self.invariant c.burst_case.result c.burst_case.ensures.made
