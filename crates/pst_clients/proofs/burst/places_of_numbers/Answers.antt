use Rattle.json.specs.Value.{value_view}
use Rattle.pst_clients.specs.Bursting.{IsPlace}
use Rattle.pst_clients.proofs.Mapped.{zip_more}
use Rattle.pst_clients.proofs.burst.places_of_numbers.Goals as goal

pub loop-number-preserved : goal.loop-number-preserved
loop-number-preserved c =
    rw c.in_ok-push-in-Some.ensures.items
    (zip_more IsPlace value_view c.args.numbers.now c.loop-number.number-index c.number-item.result c.loop-number.places.items
    c.in-Some.place c.loop-number-test.true c.number-item.is c.loop-number.invariant
    (rw c.in-Some.is at c.place_of_number.ensures))
