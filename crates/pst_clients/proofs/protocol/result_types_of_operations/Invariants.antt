use Rattle.std.proofs.Common.{◌≡◌, ◌++◌, drop, map}
use Rattle.pst_model.specs.Parts.{operations_of}
use Rattle.pst_clients.proofs.protocol.result_types_of_operations.Given as goal

abbrev pub invariant-loop-item : goal.invariant-loop-item
invariant-loop-item l = map (λ o. o.result) (operations_of l.items) ≡ l.types ++ map (λ o. o.result) (operations_of (drop l.item-index l.items))
