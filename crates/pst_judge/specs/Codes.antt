-- A value as a list of bytes: a tag, and then the parts.
use Rattle.std.specs.Prelude.{ℕ, zero, suc, ◌+◌, ◌/◌, ◌%◌, nat_lt, ℤ, pos, negsuc, Bool, List, [], ◌∷◌, ◌++◌, length, if◌then◌else◌}
use Rattle.std.specs.List.{flat_map}
use Rattle.pst_value.specs.declared.key.Key.{Key}
use Rattle.pst_value.specs.declared.key.Key.TheVariants as key
use Rattle.pst_value.specs.declared.value.Value.{Value, fold-Value}
use Rattle.pst_value.specs.declared.value.Value.TheOpen.{Value-F}

-- the digits of a number to the base 128, the lowest first. Each that another follows has 128 added to it; at
-- most so many do
abbrev pub digits : ℕ → ℕ → List ℕ
digits zero n = n ∷ []
digits (suc others) n = if nat_lt n 128 then n ∷ [] else (n % 128 + 128) ∷ digits others (n / 128)

-- a number of 64 bits has ten digits at most
unfoldable pub number_code : ℕ → List ℕ
number_code n = digits 9 n

-- how many parts there are, and the code of each
abbrev pub codes_by : {A : Type 0} → (A → List ℕ) → List A → List ℕ
codes_by code_of parts = number_code (length parts) ++ flat_map code_of parts

-- an integer below zero has a tag of its own
abbrev pub code_of_int : ℤ → List ℕ
code_of_int (pos n) = 0 ∷ number_code n
code_of_int (negsuc n) = 1 ∷ number_code (n + 1)

abbrev pub code_of_truth : Bool → List ℕ
code_of_truth b = (if b then 3 else 2) ∷ []

abbrev pub code_of_text : List ℕ → List ℕ
code_of_text bytes = 4 ∷ (number_code (length bytes) ++ bytes)

-- a key has the code of the value that it is
abbrev pub code_of_key : Key → List ℕ
code_of_key (key.Int n) = code_of_int n
code_of_key (key.Bool b) = code_of_truth b
code_of_key (key.Text bytes) = code_of_text bytes

-- the keys, and then the values, of which the codes are given
abbrev pub code_of_map : List Key → List ℕ → List ℕ
code_of_map keys values = 7 ∷ (codes_by code_of_key keys ++ values)

-- one level of a value, with the code of each part in its place
abbrev pub code_level : Value-F (List ℕ) → List ℕ
code_level (Value-F.Int n) = code_of_int n
code_level (Value-F.Bool b) = code_of_truth b
code_level (Value-F.Text bytes) = code_of_text bytes
code_level (Value-F.Tuple codes) = 5 ∷ codes_by (λ c. c) codes
code_level (Value-F.List codes) = 6 ∷ codes_by (λ c. c) codes
code_level (Value-F.Map keys codes) = code_of_map keys (codes_by (λ c. c) codes)
code_level (Value-F.Var n) = 8 ∷ number_code n
code_level (Value-F.Ref n c) = 9 ∷ (number_code n ++ c)
code_level (Value-F.Call op codes) = 10 ∷ (number_code op ++ codes_by (λ c. c) codes)

-- the code of a value
unfoldable pub code : Value → List ℕ
code = fold-Value (List ℕ) code_level
