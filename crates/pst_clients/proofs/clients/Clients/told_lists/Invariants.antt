use Rattle.std.proofs.Common.{map, take}
use Rattle.std.specs.List.{AllZip}
use Rattle.json.specs.Value.{value_view}
use Rattle.pst_clients.specs.Bursting.{IsTelling}
use Rattle.pst_clients.proofs.clients.Clients.told_lists.Given as goal

abbrev pub invariant-loop-list : goal.invariant-loop-list
invariant-loop-list g l =
    AllZip (IsTelling l.self.results l.calls) (map value_view (take l.list-index l.lists)) l.made.items
