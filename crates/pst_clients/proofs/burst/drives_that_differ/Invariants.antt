use Rattle.std.proofs.Common.{ℕ, ◌<◌, All}
use Rattle.std.specs.Prelude.{Contains}
use Rattle.pst_clients.specs.Bursting.{AreZipped}
use Rattle.pst_clients.proofs.Differing.{AreMadeBelow}
use Rattle.pst_clients.proofs.burst.drives_that_differ.Given as goal

abbrev pub invariant-loop-k : goal.invariant-loop-k
invariant-loop-k l = AreMadeBelow l.answers l.k l.drives l.firsts.items
