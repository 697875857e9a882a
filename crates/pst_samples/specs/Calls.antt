-- Calls by name and arguments, and kinds of answers.
use Rattle.std.specs.Prelude.{◌≡◌, ℕ, ℤ, pos, List, [], ◌∷◌, codes, Bool, ◌⊎◌}
use Rattle.pst_system.specs.declared.system.RealCall.{RealCall}
use Rattle.pst_value.specs.declared.value.Value.{Value}
use Rattle.pst_value.specs.declared.value.Value.TheVariants as form

-- a call of that name without arguments
abbrev pub IsBare : List ℕ → RealCall → Type 0
IsBare name c = (c.name ≡ name) × (c.args ≡ [])

-- a call of that name with that number as its one argument
abbrev pub HasNumber : List ℕ → ℤ → RealCall → Type 0
HasNumber name n c = (c.name ≡ name) × (c.args ≡ form.Int n ∷ [])

-- a call of that name with some number as its one argument
abbrev pub IsNumbered : List ℕ → RealCall → Type 0
IsNumbered name c = (n : ℤ) × HasNumber name n c

-- `meet 1` or `meet 2`
abbrev pub IsMeet : RealCall → Type 0
IsMeet c = HasNumber (codes "meet") (pos 1) c ⊎ HasNumber (codes "meet") (pos 2) c

-- the value is an integer
abbrev pub IsInt : Value → Type 0
IsInt v = (n : ℤ) × (v ≡ form.Int n)

-- the value is a truth value
abbrev pub IsBool : Value → Type 0
IsBool v = (b : Bool) × (v ≡ form.Bool b)

-- the values are one integer or none
abbrev pub AreAtMostOneInt : List Value → Type 0
AreAtMostOneInt vs = (vs ≡ []) ⊎ ((n : ℤ) × (vs ≡ form.Int n ∷ []))

-- the value is a list of one integer or of none
abbrev pub IsListOfAtMostOneInt : Value → Type 0
IsListOfAtMostOneInt v = (vs : List Value) × (v ≡ form.List vs) × AreAtMostOneInt vs
