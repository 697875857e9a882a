use Rattle.json.specs.Value.{value_view}
use Rattle.pst_clients.specs.Bursting.{IsTelling}
use Rattle.pst_clients.proofs.Mapped.{zip_more}
use Rattle.pst_clients.proofs.clients.Clients.told_lists.Goals as goal

pub loop-list-preserved : goal.loop-list-preserved
loop-list-preserved g c =
    rw c.in_ok-push-in-Some.ensures.items
    (zip_more (IsTelling c.args.self.now.results c.args.calls.now) value_view c.args.lists.now c.loop-list.list-index
    c.list-item.result c.loop-list.made.items c.in-Some.own c.loop-list-test.true c.list-item.is c.loop-list.invariant
    (rw c.in-Some.is at c.in_ok-own.ensures))
