use Rattle.std.proofs.Common.{All, take}
use Rattle.pst_clients.specs.Bursting.{IsAlike}
use Rattle.pst_clients.proofs.burst.are_drives_alike.Given as goal

abbrev pub invariant-loop-answer : goal.invariant-loop-answer
invariant-loop-answer l = All (IsAlike l.k l.other) (take l.answer-index l.answers)
