-- How often a number stands in a list, and sums over a list.
use Rattle.std.specs.Prelude.{ℕ, ◌+◌, Bool, true, false, eqb, List, [], ◌∷◌}

abbrev pub one_if : Bool → ℕ
one_if true = 1
one_if false = 0

-- how often the number stands in the list
abbrev pub times : ℕ → List ℕ → ℕ
times x [] = 0
times x (y ∷ ys) = one_if (eqb x y) + times x ys

-- the sum of what each of the list gives
abbrev pub total_of : {A : Type 0} → (A → ℕ) → List A → ℕ
total_of f [] = 0
total_of f (x ∷ xs) = f x + total_of f xs

-- the numbers of a list of pairs
abbrev pub keys : {A : Type 0} → List (ℕ × A) → List ℕ
keys [] = []
keys (x ∷ xs) = x.0 ∷ keys xs
