use Rattle.std.proofs.Common.{ℕ, Bool, List, All, Bor}
use Rattle.pst_judge.specs.declared.by_order.CallOrder.{CallOrder}
use Rattle.pst_rejudge.specs.Places.{AreFilled, StandsIn}
use Rattle.pst_model.specs.declared.model.Source.{Source}
use Rattle.pst_rejudge.proofs.parts.put_answered_parts_into_places.Given as goal

abbrev pub invariant-loop-part : goal.invariant-loop-part
invariant-loop-part l = (order : CallOrder) (m : Source) (keeps : Bool) (parts : List (Bor (List ℕ))) → AreFilled order m keeps parts l.fn.places.items
    → All (StandsIn order m keeps parts) l.yielded → AreFilled order m keeps parts l.places.items
