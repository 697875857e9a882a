-- What a packed value feeds a hasher.
use Rattle.std.specs.Prelude.{ℕ, ℤ, List, [], ◌∷◌, ◌++◌, Option, Some, None}
use Rattle.std.specs.Hash as hash
use Rattle.std.specs.Hash.{HashWrites}
use Rattle.std.specs.Int.{from_le_bytes, w64}
use Rattle.pst_judge.specs.Kept.{int_of, bytes_of}
use Rattle.pst_value.specs.declared.value.Value.{Value}

-- each eight bytes are one number, the lowest first, and those that are left, if any, are one write
abbrev pub words : List ℕ → HashWrites
words (a ∷ b ∷ c ∷ d ∷ e ∷ f ∷ g ∷ h ∷ more) =
    hash.u64 (from_le_bytes w64 (a ∷ b ∷ c ∷ d ∷ e ∷ f ∷ g ∷ h ∷ [])) ++ words more
words [] = []
words rest = rest ∷ []

abbrev pub fed_as : List ℕ → Option ℤ → HashWrites
fed_as bytes (Some n) = hash.i64 n
fed_as bytes None = words bytes

-- an integer is one number, and any other value is the words of its bytes
abbrev pub fed : Value → HashWrites
fed v = fed_as (bytes_of v) (int_of v)
