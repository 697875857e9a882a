use Rattle.std.proofs.Common.{◌+◌, take, subst, sym}
use Rattle.pst_rejudge.proofs.Placed.{no_part_more}
use Rattle.pst_rejudge.specs.Places.{AreFilled}
use Rattle.pst_rejudge.proofs.parts.empty_places_for_parts.Goals as goal

pub loop-part-preserved : goal.loop-part-preserved
loop-part-preserved c order m keeps =
    subst (AreFilled order m keeps (take (c.loop-part._part-index + 1) c.args.parts.now)) (sym c.in_ok-push.ensures.items)
    (no_part_more order m keeps c.args.parts.now c.loop-part.places.items c.loop-part._part-index c.loop-part-test.true (c.loop-part.invariant order m keeps))
