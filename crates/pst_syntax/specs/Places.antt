-- The places of the items of a tuple, from 1 on.
use Rattle.std.specs.Prelude.{◌&&◌, ℕ, ℤ, pos, negsuc, nat_lt, Bool, false, List}
use Rattle.pst_sexpr.specs.Integers.{is_integer, value}

-- an integer from 1 on
abbrev pub is_positive : ℤ → Bool
is_positive (pos number) = nat_lt 0 number
is_positive (negsuc number) = false

-- whether a word is a place
abbrev pub is_place : List ℕ → Bool
is_place word = is_integer word && is_positive (value word)

-- the number of a place
abbrev pub natural : ℤ → ℕ
natural (pos number) = number
natural (negsuc number) = 0
