use Rattle.pst_ledger.proofs.Seats.{times-at, times-take_more}
use Rattle.pst_ledger.proofs.seat.has_number.Goals as goal

pub returns-then-draw-number : goal.returns-then-draw-number
returns-then-draw-number c = times-at _ c.loop-draw.draw-index c.args.draws.now c.loop-draw-test.true c.if-draw-number.true

pub loop-draw-preserved : goal.loop-draw-preserved
loop-draw-preserved c = times-take_more _ _ _ c.loop-draw-test.true c.if-draw-number.false c.loop-draw.invariant
