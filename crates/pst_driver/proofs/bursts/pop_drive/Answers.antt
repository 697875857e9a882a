use Rattle.pst_driver.proofs.Popped.{popped}
use Rattle.pst_driver.proofs.bursts.pop_drive.Goals as goal
use Rattle.pst_system.specs.Bursts.{IsMadeDrive}

pub returns-clause-drive : goal.returns-clause-drive
returns-clause-drive g c = (popped (IsMadeDrive g.J.Relations.answering g.J.Relations.failing) _ _ c.requires _ c.pop.ensures).0

pub returns-clause-rest : goal.returns-clause-rest
returns-clause-rest g c = (popped (IsMadeDrive g.J.Relations.answering g.J.Relations.failing) _ _ c.requires _ c.pop.ensures).1
