use Rattle.std.proofs.Common.{map, take}
use Rattle.std.specs.List.{AllZip}
use Rattle.json.specs.Value.{value_view}
use Rattle.pst_clients.specs.Bursting.{IsPlace}
use Rattle.pst_clients.proofs.burst.places_of_numbers.Given as goal

abbrev pub invariant-loop-number : goal.invariant-loop-number
invariant-loop-number l = AllZip IsPlace (map value_view (take l.number-index l.numbers)) l.places.items
