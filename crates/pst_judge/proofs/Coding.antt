-- The code of each form of a value, and the integer that it is.
use Rattle.std.proofs.Common.{◌≡◌, ℕ, ℤ, Bool, List, [], ◌∷◌, ◌++◌, map, length, refl, ap, ◌∙◌, Option, Some, None, append_assoc}
use Rattle.std.proofs.lemmas.List.{length-map}
use Rattle.std.specs.List.{flat_map}
use Rattle.pst_value.proofs.Forms.{fold-Int, fold-Truth, fold-Text, fold-Tuple, fold-ListOf, fold-MapOf, fold-Var, fold-Ref, fold-Call}
use Rattle.pst_value.specs.declared.key.Key.{Key}
use Rattle.pst_value.specs.declared.value.Value.{Value, Int, Text, Tuple, List as ListOf, Map as MapOf, Var, Ref, Call, Bool as Truth}
use Rattle.pst_judge.specs.Codes.{number_code, codes_by, code_of_int, code_of_truth, code_of_text, code_of_key, code_level, code}
use Rattle.pst_judge.specs.Kept.{int_level, int_of}

flat_map-map : {A : Type 0} (f : A → List ℕ) (xs : List A) → flat_map (λ c. c) (map f xs) ≡ flat_map f xs
flat_map-map f [] = refl
flat_map-map f (x ∷ xs) = ap (λ bytes. f x ++ bytes) (flat_map-map f xs)

-- parts that were given as their codes
pub codes_by-map : {A : Type 0} (f : A → List ℕ) (xs : List A) → codes_by (λ c. c) (map f xs) ≡ codes_by f xs
codes_by-map f xs = λ i. number_code (length-map xs f i) ++ flat_map-map f xs i

pub code-Int : (n : ℤ) → code (Int n) ≡ code_of_int n
unfolding code
code-Int n = fold-Int (List ℕ) code_level n

pub code-Truth : (b : Bool) → code (Truth b) ≡ code_of_truth b
unfolding code
code-Truth b = fold-Truth (List ℕ) code_level b

pub code-Text : (t : List ℕ) → code (Text t) ≡ code_of_text t
unfolding code
code-Text t = fold-Text (List ℕ) code_level t

pub code-Tuple : (xs : List Value) → code (Tuple xs) ≡ 5 ∷ codes_by code xs
unfolding code
code-Tuple xs = fold-Tuple (List ℕ) code_level xs ∙ ap (λ c. 5 ∷ c) (codes_by-map code xs)

pub code-ListOf : (xs : List Value) → code (ListOf xs) ≡ 6 ∷ codes_by code xs
unfolding code
code-ListOf xs = fold-ListOf (List ℕ) code_level xs ∙ ap (λ c. 6 ∷ c) (codes_by-map code xs)

pub code-MapOf : (ks : List Key) (xs : List Value) → code (MapOf ks xs) ≡ 7 ∷ (codes_by code_of_key ks ++ codes_by code xs)
unfolding code
code-MapOf ks xs = fold-MapOf (List ℕ) code_level ks xs ∙ ap (λ c. 7 ∷ (codes_by code_of_key ks ++ c)) (codes_by-map code xs)

pub code-Var : (n : ℕ) → code (Var n) ≡ 8 ∷ number_code n
unfolding code
code-Var n = fold-Var (List ℕ) code_level n

pub code-Ref : (n : ℕ) (v : Value) → code (Ref n v) ≡ 9 ∷ (number_code n ++ code v)
unfolding code
code-Ref n v = fold-Ref (List ℕ) code_level n v

pub code-Call : (op : ℕ) (xs : List Value) → code (Call op xs) ≡ 10 ∷ (number_code op ++ codes_by code xs)
unfolding code
code-Call op xs = fold-Call (List ℕ) code_level op xs ∙ ap (λ c. 10 ∷ (number_code op ++ c)) (codes_by-map code xs)

pub ruleset coding = (code-Int, code-Truth, code-Text, code-Tuple, code-ListOf, code-MapOf, code-Var, code-Ref, code-Call, append_assoc)

pub int_of-Int : (n : ℤ) → int_of (Int n) ≡ Some n
unfolding int_of
int_of-Int n = fold-Int (Option ℤ) int_level n

pub int_of-Truth : (b : Bool) → int_of (Truth b) ≡ None
unfolding int_of
int_of-Truth b = fold-Truth (Option ℤ) int_level b

pub int_of-Text : (t : List ℕ) → int_of (Text t) ≡ None
unfolding int_of
int_of-Text t = fold-Text (Option ℤ) int_level t

pub int_of-Tuple : (xs : List Value) → int_of (Tuple xs) ≡ None
unfolding int_of
int_of-Tuple xs = fold-Tuple (Option ℤ) int_level xs

pub int_of-ListOf : (xs : List Value) → int_of (ListOf xs) ≡ None
unfolding int_of
int_of-ListOf xs = fold-ListOf (Option ℤ) int_level xs

pub int_of-MapOf : (ks : List Key) (xs : List Value) → int_of (MapOf ks xs) ≡ None
unfolding int_of
int_of-MapOf ks xs = fold-MapOf (Option ℤ) int_level ks xs

pub int_of-Var : (n : ℕ) → int_of (Var n) ≡ None
unfolding int_of
int_of-Var n = fold-Var (Option ℤ) int_level n

pub int_of-Ref : (n : ℕ) (v : Value) → int_of (Ref n v) ≡ None
unfolding int_of
int_of-Ref n v = fold-Ref (Option ℤ) int_level n v

pub int_of-Call : (op : ℕ) (xs : List Value) → int_of (Call op xs) ≡ None
unfolding int_of
int_of-Call op xs = fold-Call (Option ℤ) int_level op xs

pub ruleset integers = (int_of-Int, int_of-Truth, int_of-Text, int_of-Tuple, int_of-ListOf, int_of-MapOf, int_of-Var, int_of-Ref, int_of-Call)
