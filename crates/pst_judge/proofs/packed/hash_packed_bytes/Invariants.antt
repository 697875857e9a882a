use Rattle.std.proofs.Common.{◌≡◌, length}
use Rattle.std.specs.List.{fold}
use Rattle.pst_judge.specs.Feeding.{words}
use Rattle.pst_judge.proofs.packed.hash_packed_bytes.Given as goal

abbrev pub invariant-loop-rest : goal.invariant-loop-rest
invariant-loop-rest g l = fold g.H.Hasher.write l.fn.state (words l.bytes) ≡ fold g.H.Hasher.write l.state (words l.rest)

abbrev pub decreases-loop-rest : goal.decreases-loop-rest
decreases-loop-rest g l = length l.rest
