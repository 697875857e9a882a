-- `renumbered` at each form of a value.
use Rattle.std.proofs.Common.{◌≡◌, ℕ, ℤ, Bool, List, map}
use Rattle.pst_case.specs.Renumber.{renumbered, renumbered_level}
use Rattle.pst_value.proofs.Forms.{fold-Int, fold-Truth, fold-Text, fold-Tuple, fold-ListOf, fold-MapOf, fold-Var, fold-Ref, fold-Call}
use Rattle.pst_value.specs.declared.key.Key.{Key}
use Rattle.pst_value.specs.declared.value.Value.{Value, Int, Text, Tuple, List as ListOf, Map as MapOf, Var, Ref, Call, Bool as Truth}

module _ (f : ℕ → ℕ) where
  pub renumbered-Int : (k : ℤ) → renumbered f (Int k) ≡ Int k
  unfolding renumbered
  renumbered-Int k = fold-Int Value (renumbered_level f) k

  pub renumbered-Truth : (b : Bool) → renumbered f (Truth b) ≡ Truth b
  unfolding renumbered
  renumbered-Truth b = fold-Truth Value (renumbered_level f) b

  pub renumbered-Text : (t : List ℕ) → renumbered f (Text t) ≡ Text t
  unfolding renumbered
  renumbered-Text t = fold-Text Value (renumbered_level f) t

  pub renumbered-Tuple : (xs : List Value) → renumbered f (Tuple xs) ≡ Tuple (map (renumbered f) xs)
  unfolding renumbered
  renumbered-Tuple xs = fold-Tuple Value (renumbered_level f) xs

  pub renumbered-ListOf : (xs : List Value) → renumbered f (ListOf xs) ≡ ListOf (map (renumbered f) xs)
  unfolding renumbered
  renumbered-ListOf xs = fold-ListOf Value (renumbered_level f) xs

  pub renumbered-MapOf : (ks : List Key) (xs : List Value) → renumbered f (MapOf ks xs) ≡ MapOf ks (map (renumbered f) xs)
  unfolding renumbered
  renumbered-MapOf ks xs = fold-MapOf Value (renumbered_level f) ks xs

  pub renumbered-Var : (n : ℕ) → renumbered f (Var n) ≡ Var (f n)
  unfolding renumbered
  renumbered-Var n = fold-Var Value (renumbered_level f) n

  pub renumbered-Ref : (n : ℕ) (v : Value) → renumbered f (Ref n v) ≡ Ref (f n) (renumbered f v)
  unfolding renumbered
  renumbered-Ref n v = fold-Ref Value (renumbered_level f) n v

  pub renumbered-Call : (op : ℕ) (xs : List Value) → renumbered f (Call op xs) ≡ Call op (map (renumbered f) xs)
  unfolding renumbered
  renumbered-Call op xs = fold-Call Value (renumbered_level f) op xs

pub ruleset renumbering = (renumbered-Int, renumbered-Truth, renumbered-Text, renumbered-Tuple, renumbered-ListOf, renumbered-MapOf, renumbered-Var, renumbered-Ref, renumbered-Call)
