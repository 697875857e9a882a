use Rattle.std.proofs.Common.{length}
use Rattle.pst_clients.proofs.Zipping.{drives_made}
use Rattle.pst_clients.proofs.clients.ClientsSystem.burst.Goals as goal

pub returns-clause-made : goal.returns-clause-made
returns-clause-made g c =
    drives_made g.I.LineSource.may_give g.I.LineSource.may_fail g.I.LineSource.may_run_ahead g.O.LineSink.may_break
    (length c.args.self.now.connections.items) c.args.self.now.results c.args.case.now c.args.self.now.drives
    c.burst_clients.result c.burst_clients.ensures.told
