use Rattle.std.proofs.Common.{◌≡◌, false}
use Rattle.pst_judge.specs.RealTime.{next_of, some_precedes}
use Rattle.pst_judge.proofs.real_time.RealTimeOrder.is_open.Given as goal

abbrev pub invariant-loop-other : goal.invariant-loop-other
invariant-loop-other l = some_precedes (next_of l.self.branches.now l.done) l.other l.next ≡ false
