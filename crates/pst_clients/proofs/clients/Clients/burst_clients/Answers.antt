use Rattle.pst_clients.proofs.clients.Clients.burst_clients.Goals as goal

pub returns-clause-told : goal.returns-clause-told
returns-clause-told g c =
    rw (c.reset_clients.ensures.results, c.reset_clients.ensures.clients) at c.drive_clients.ensures
