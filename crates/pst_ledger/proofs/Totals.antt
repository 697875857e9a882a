-- Sums over the views, where one of them changes.
use Rattle.std.proofs.Common.{◌≡◌, ◌≢◌, ℕ, zero, suc, ◌+◌, ◌≤◌, eqb, eq-eqb, ne_eqb, List, [], ◌∷◌, ◌++◌, set, refl, sym, ap, arith}
use mathlib.Core.Option.{some, some-injective, some-ne-none}
use lib.ListN.{get_elem?}
use Rattle.pst_ledger.specs.Count.{one_if, times, total_of, keys}

module _ {A : Type 0} (f : A → ℕ) where
  pub total-set : (l : List A) (i : ℕ) (a b : A) → get_elem? l i ≡ some a → total_of f (set l i b) + f a ≡ total_of f l + f b
  total-set [] i a b e = absurd (some-ne-none a (sym e))
  total-set (x ∷ xs) zero a b e = let same : f x ≡ f a = ap f (some-injective x a e) in omega arith
  total-set (x ∷ xs) (suc i) a b e = let h = total-set xs i a b e in omega (arith, h)

  pub total-snoc : (l : List A) (a : A) → total_of f (l ++ a ∷ []) ≡ total_of f l + f a
  total-snoc [] a = omega arith
  total-snoc (x ∷ xs) a = let h = total-snoc xs a in omega (arith, h)

  -- no part is more than the whole
  pub total-at : (l : List A) (i : ℕ) (a : A) → get_elem? l i ≡ some a → f a ≤ total_of f l
  total-at [] i a e = absurd (some-ne-none a (sym e))
  total-at (x ∷ xs) zero a e = let same : f x ≡ f a = ap f (some-injective x a e) in omega arith
  total-at (x ∷ xs) (suc i) a e = let h = total-at xs i a e in omega (arith, h)

  pub total-two : (l : List A) (i j : ℕ) (a b : A) → get_elem? l i ≡ some a → get_elem? l j ≡ some b → i ≢ j → f a + f b ≤ total_of f l
  total-two [] i j a b e d ne = absurd (some-ne-none a (sym e))
  total-two (x ∷ xs) zero zero a b e d ne = absurd (ne refl)
  total-two (x ∷ xs) zero (suc j) a b e d ne = let same : f x ≡ f a = ap f (some-injective x a e) in let h = total-at xs j b d in omega (arith, h)
  total-two (x ∷ xs) (suc i) zero a b e d ne = let same : f x ≡ f b = ap f (some-injective x b d) in let h = total-at xs i a e in omega (arith, h)
  total-two (x ∷ xs) (suc i) (suc j) a b e d ne = let h = total-two xs i j a b e d (λ s. ne (ap suc s)) in omega (arith, h)

  pub total-none : (l : List A) → ((i : ℕ) (a : A) → get_elem? l i ≡ some a → f a ≡ 0) → total_of f l ≡ 0
  total-none [] h = refl
  total-none (x ∷ xs) h = let here = h 0 x refl in let rest = total-none xs (λ i a e. h (suc i) a e) in omega (arith, here, rest)

  -- one of them has it all
  pub total-one : (l : List A) (i : ℕ) (a : A) → get_elem? l i ≡ some a → ((j : ℕ) (b : A) → j ≢ i → get_elem? l j ≡ some b → f b ≡ 0) → total_of f l ≡ f a
  total-one [] i a e h = absurd (some-ne-none a (sym e))
  total-one (x ∷ xs) zero a e h = let same : f x ≡ f a = ap f (some-injective x a e) in let rest = total-none xs (λ j b d. h (suc j) b (λ q. omega arith) d) in omega (arith, rest)
  total-one (x ∷ xs) (suc i) a e h =
      let here = h 0 x (λ q. omega arith) refl in
      let rest = total-one xs i a e (λ j b ne d. h (suc j) b (λ q. ne (omega arith)) d) in
      omega (arith, here, rest)

pub total-le : {A : Type 0} (f g : A → ℕ) (l : List A) → ((i : ℕ) (a : A) → get_elem? l i ≡ some a → f a ≤ g a) → total_of f l ≤ total_of g l
total-le f g [] h = omega arith
total-le f g (x ∷ xs) h = let here = h 0 x refl in let rest = total-le f g xs (λ i a e. h (suc i) a e) in omega (arith, here, rest)

pub times-append : (x : ℕ) (l m : List ℕ) → times x (l ++ m) ≡ times x l + times x m
times-append x [] m = omega arith
times-append x (y ∷ l) m = let h = times-append x l m in omega (arith, h)

pub one-same : (x : ℕ) → one_if (eqb x x) ≡ 1
one-same x = ap one_if (eq-eqb x x refl)

pub one-other : (x y : ℕ) → x ≢ y → one_if (eqb x y) ≡ 0
one-other x y ne = ap one_if (ne_eqb x y ne)

pub times-snoc_same : (x : ℕ) (l : List ℕ) → times x (l ++ x ∷ []) ≡ times x l + 1
times-snoc_same x l = let h = times-append x l (x ∷ []) in let o = one-same x in omega (arith, h, o)

pub times-snoc_other : (x y : ℕ) (l : List ℕ) → x ≢ y → times x (l ++ y ∷ []) ≡ times x l
times-snoc_other x y l ne = let h = times-append x l (y ∷ []) in let o = one-other x y ne in omega (arith, h, o)

pub keys-append : {A : Type 0} (l m : List (ℕ × A)) → keys (l ++ m) ≡ keys l ++ keys m
keys-append [] m = refl
keys-append (x ∷ l) m = ap (λ r. x.0 ∷ r) (keys-append l m)
