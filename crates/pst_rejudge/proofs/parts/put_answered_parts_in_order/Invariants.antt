use Rattle.std.proofs.Common.{Bool, All}
use Rattle.pst_judge.specs.declared.by_order.CallOrder.{CallOrder}
use Rattle.pst_rejudge.specs.Places.{AreFilled, StandsIn}
use Rattle.pst_model.specs.declared.model.Source.{Source}
use Rattle.pst_rejudge.proofs.parts.put_answered_parts_in_order.Given as goal

abbrev pub invariant-loop-taken : goal.invariant-loop-taken
invariant-loop-taken l = (order : CallOrder) (m : Source) (keeps : Bool) → All (λ taken. All (StandsIn order m keeps l.parts) taken.items) l.yielded → AreFilled order m keeps l.parts l.places.items
