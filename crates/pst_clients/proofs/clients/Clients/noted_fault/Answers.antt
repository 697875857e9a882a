use Rattle.pst_clients.proofs.clients.Clients.noted_fault.Goals as goal

pub returns : goal.returns
returns g c = rw c.fault.ensures c.requires
