use Rattle.std.proofs.Common.{All, Vec, Global}
use Rattle.pst_rejudge.proofs.Placed.{before_last}
use Rattle.pst_rejudge.specs.Places.{StandsIn}
use Rattle.pst_rejudge.specs.declared.parts.AnsweredPart.{AnsweredPart}
use Rattle.pst_rejudge.proofs.parts.put_answered_parts_in_order.Goals as goal

pub loop-taken-preserved : goal.loop-taken-preserved
loop-taken-preserved c order m keeps all =
    let Stand : Vec AnsweredPart Global → Type 0 = λ taken. All (StandsIn order m keeps c.args.parts.now) taken.items in
    let both = before_last Stand c.loop-taken.yielded c.in-Some.taken all in
    c.put_answered_parts_into_places-places.ensures order m keeps c.args.parts.now (c.loop-taken.invariant order m keeps both.0) both.1
