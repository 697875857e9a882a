-- Words that are integers.
use Rattle.std.specs.Prelude.{◌==◌, ◌&&◌, ℕ, zero, suc, ◌+◌, ◌-◌, ◌*◌, ◌^◌, ℤ, pos, negsuc, nat_le, nat_lt}
use Rattle.std.specs.Prelude.{Bool, false, if◌then◌else◌, List, [], ◌∷◌, Option, Some, None}
use Rattle.std.specs.List.{list_all}
use Rattle.pst_value.specs.Text.{is_i64}

-- one of the bytes from `0` to `9`
abbrev pub is_digit : ℕ → Bool
is_digit byte = nat_le 48 byte && nat_le byte 57

-- one digit or more
abbrev pub are_digits : List ℕ → Bool
are_digits [] = false
are_digits (byte ∷ bytes) = is_digit byte && list_all is_digit bytes

-- an optional `-`, and then one digit or more
unfoldable pub is_integer : List ℕ → Bool
is_integer [] = false
is_integer (byte ∷ bytes) = if byte == 45 then are_digits bytes else are_digits (byte ∷ bytes)

-- the number that digits spell behind those of another number
abbrev pub magnitude : ℕ → List ℕ → ℕ
magnitude number [] = number
magnitude number (digit ∷ digits) = magnitude (number * 10 + (digit - 48)) digits

-- the opposite of a number
abbrev pub negative : ℕ → ℤ
negative zero = pos 0
negative (suc number) = negsuc number

-- the integer that an integer word spells, of any size
unfoldable pub value : List ℕ → ℤ
value [] = pos 0
value (byte ∷ bytes) = if byte == 45 then negative (magnitude 0 bytes) else pos (magnitude 0 (byte ∷ bytes))

-- a number where it has at most 64 bits
abbrev pub in_u64 : ℕ → Option ℕ
in_u64 number = if nat_lt number (2 ^ 64) then Some number else None

-- an integer where it has at most 64 bits
abbrev pub in_i64 : ℤ → Option ℤ
in_i64 integer = if is_i64 integer then Some integer else None

-- the integer of at most 64 bits that a word spells
unfoldable pub integer_of : List ℕ → Option ℤ
integer_of word = if is_integer word then in_i64 (value word) else None
