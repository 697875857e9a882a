-- A number is hashed as its bytes are.
use Rattle.std.proofs.Common.{◌≡◌, ℕ, ◌<◌, ◌^◌, ap}
use Rattle.std.proofs.lemmas.Nat.{from_le_bytes-to_le_bytes_8}
use Rattle.std.specs.Hash as fed
use Rattle.std.specs.Hash.{le_bytes}
use Rattle.std.specs.List.{fold}
use Rattle.pst_grid.specs.declared.hasher.PositionHasher.{PositionHasher}
use Rattle.pst_grid.specs.Hashing.{mixed, write}

pub number_written : (h : PositionHasher) (n : ℕ) → n < 2 ^ 64 → fold write h (fed.u64 n) ≡ record { state = mixed h.state n }
unfolding le_bytes
number_written h n lt = ap (λ word. record h { state = mixed h.state word }) (from_le_bytes-to_le_bytes_8 n lt)
