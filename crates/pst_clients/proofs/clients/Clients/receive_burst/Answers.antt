use Rattle.std.proofs.Common.{subst, sym}
use Rattle.pst_clients.proofs.Said.{heard}
use Rattle.pst_clients.proofs.clients.Clients.receive_burst.Goals as goal
use Rattle.pst_clients.specs.Bursting.{calls_of}

pub returns : goal.returns
returns g c =
    heard g.I.LineSource.may_give c.args.self.now.results c.as_slice.result.now (calls_of c.args.case.now c.args.branch)
    c.as_str.result.now
    (subst g.I.LineSource.may_give (sym c.as_str.ensures.value)
    (rw c.in-Some-receive_burst_line.is at c.receive_burst_line.ensures))
    (cc (c.as_slice.ensures, c.in_ok-calls.ensures))
    c.burst_answer.result c.burst_answer.ensures
