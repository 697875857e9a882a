use Rattle.std.proofs.Common.{All}
use Rattle.pst_rejudge.specs.Places.{StandsIn}
use Rattle.pst_rejudge.proofs.parts.take_and_judge_remaining_parts.Given as goal

abbrev pub invariant-loop : goal.invariant-loop
invariant-loop g l = All (StandsIn l.judge.order (g.C.Callbacks.model l.judge.callbacks.now) l.keeps l.parts) l.taken.items
