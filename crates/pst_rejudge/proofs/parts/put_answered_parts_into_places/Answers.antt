use Rattle.pst_rejudge.proofs.Placed.{before_last, put_part}
use Rattle.pst_rejudge.specs.Places.{StandsIn}
use Rattle.pst_rejudge.proofs.parts.put_answered_parts_into_places.Goals as goal

pub loop-part-preserved-then-place-len : goal.loop-part-preserved-then-place-len
loop-part-preserved-then-place-len c order m keeps parts h all =
    let both = before_last (StandsIn order m keeps parts) c.loop-part.yielded c.in-Some.part all in
    put_part order m keeps parts c.loop-part.places.items c.in-Some.part (c.loop-part.invariant order m keeps parts h both.0) both.1

pub loop-part-preserved-then-place-len-2 : goal.loop-part-preserved-then-place-len-2
loop-part-preserved-then-place-len-2 c order m keeps parts h all =
    let both = before_last (StandsIn order m keeps parts) c.loop-part.yielded c.in-Some.part all in
    put_part order m keeps parts c.loop-part.places.items c.in-Some.part (c.loop-part.invariant order m keeps parts h both.0) both.1

pub loop-part-preserved : goal.loop-part-preserved
loop-part-preserved c order m keeps parts h all =
    c.loop-part.invariant order m keeps parts h (before_last (StandsIn order m keeps parts) c.loop-part.yielded c.in-Some.part all).0
