use Rattle.std.proofs.Common.{Bool, take}
use Rattle.pst_judge.specs.declared.by_order.CallOrder.{CallOrder}
use Rattle.pst_rejudge.specs.Places.{AreFilled}
use Rattle.pst_model.specs.declared.model.Source.{Source}
use Rattle.pst_rejudge.proofs.parts.empty_places_for_parts.Given as goal

abbrev pub invariant-loop-part : goal.invariant-loop-part
invariant-loop-part l = (order : CallOrder) (m : Source) (keeps : Bool) → AreFilled order m keeps (take l._part-index l.parts) l.places.items
