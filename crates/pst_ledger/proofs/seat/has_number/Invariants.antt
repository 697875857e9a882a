use Rattle.std.proofs.Common.{◌≡◌, take}
use Rattle.pst_ledger.specs.Count.{times}
use Rattle.pst_ledger.proofs.seat.has_number.Given as goal

abbrev pub invariant-loop-draw : goal.invariant-loop-draw
invariant-loop-draw l = times l.number (take l.draw-index l.draws) ≡ 0
