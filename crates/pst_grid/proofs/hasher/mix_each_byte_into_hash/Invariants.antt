use Rattle.std.proofs.Common.{◌≡◌, take}
use Rattle.std.specs.List.{fold}
use Rattle.pst_grid.specs.Hashing.{mixed}
use Rattle.pst_grid.proofs.hasher.mix_each_byte_into_hash.Given as goal

abbrev pub invariant-loop-byte : goal.invariant-loop-byte
invariant-loop-byte l = l.mixing ≡ fold mixed l.fn.state (take l.byte-index l.bytes)
