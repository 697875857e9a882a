use Rattle.std.specs.Prelude.{⊤}
use Rattle.pst_clients.proofs.burst.like_drive.Given as goal

abbrev pub invariant-loop-first : goal.invariant-loop-first
invariant-loop-first l = ⊤
