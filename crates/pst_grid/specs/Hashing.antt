-- What the hasher of positions computes.
use Rattle.std.specs.Prelude.{ℕ, ◌-◌, ◌*◌, ◌/◌, ◌^◌, ◌==◌, List, length, Option, Some, None, if◌then◌else◌, bit_and, bit_xor}
use Rattle.std.specs.Int.{from_le_bytes, w64}
use Rattle.std.specs.List.{fold}
use Rattle.pst_grid.specs.declared.hasher.PositionHasher.{PositionHasher}

-- the two halves of the 128 bits of a product, joined by xor
abbrev pub folded_multiply : ℕ → ℕ → ℕ
folded_multiply a b = bit_xor (bit_and (a * b) (2 ^ 64 - 1)) (a * b / 2 ^ 64)

-- the state after a number
abbrev pub mixed : ℕ → ℕ → ℕ
mixed state number = folded_multiply (bit_xor state number) 0x9e37_79b9_7f4a_7c15

-- the number that eight bytes are, the lowest first
abbrev pub word_of : List ℕ → Option ℕ
word_of bs = if length bs == 8 then Some (from_le_bytes w64 bs) else None

abbrev pub after : ℕ → List ℕ → Option ℕ → ℕ
after state bs None = fold mixed state bs
after state bs (Some word) = mixed state word

-- the state after a write: eight bytes are one number, and any others one after another
abbrev pub write : PositionHasher → List ℕ → PositionHasher
write h bs = record { state = after h.state bs (word_of bs) }

abbrev pub start : PositionHasher
start = record { state = 0x243f_6a88_85a3_08d3 }
