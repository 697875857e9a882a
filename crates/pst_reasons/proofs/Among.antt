-- Lists of numbers as sets.
use Rattle.std.proofs.Common.{◌≡◌, ◌==◌, ◌||◌, ℕ, zero, suc, ◌≤◌, Bool, true, false, List, [], ◌∷◌, ◌++◌, refl, sym, ap, ◌∙◌, ◌⊎◌, inl, inr, arith}
use Rattle.std.specs.Prelude.{if◌then◌else◌}
use Rattle.std.proofs.lemmas.Bool.Decides.{nat_tests}
use Rattle.pst_reasons.specs.Reasons.{is_among, without, numbers_to}

or_true : (a b : Bool) → (a || b) ≡ true → (a ≡ true) ⊎ (b ≡ true)
or_true true b h = inl refl
or_true false b h = inr h

or_first : (a b : Bool) → a ≡ true → (a || b) ≡ true
or_first a b h = ap (λ x. x || b) h

or_second : (a b : Bool) → b ≡ true → (a || b) ≡ true
or_second true b h = refl
or_second false b h = h

or_assoc : (a b c : Bool) → ((a || b) || c) ≡ (a || (b || c))
or_assoc true b c = refl
or_assoc false b c = refl

pub same_number : (a b : ℕ) → (a == b) ≡ true → a ≡ b
same_number a b h = grind (arith, nat_tests)

pub other_number : (a b : ℕ) → (a == b) ≡ false → a ≡ b → ⊥
other_number a b h e = grind (arith, nat_tests)

pub itself : (a : ℕ) → (a == a) ≡ true
itself a = grind (arith, nat_tests)

pub among_append : (x : ℕ) (xs ys : List ℕ) → is_among x (xs ++ ys) ≡ (is_among x xs || is_among x ys)
among_append x [] ys = refl
among_append x (n ∷ xs) ys = ap (λ b. (n == x) || b) (among_append x xs ys) ∙ sym (or_assoc (n == x) (is_among x xs) (is_among x ys))

pub in_first : (x : ℕ) (xs ys : List ℕ) → is_among x xs ≡ true → is_among x (xs ++ ys) ≡ true
in_first x xs ys h = among_append x xs ys ∙ or_first (is_among x xs) (is_among x ys) h

pub in_second : (x : ℕ) (xs ys : List ℕ) → is_among x ys ≡ true → is_among x (xs ++ ys) ≡ true
in_second x xs ys h = among_append x xs ys ∙ or_second (is_among x xs) (is_among x ys) h

pub in_either : (x : ℕ) (xs ys : List ℕ) → is_among x (xs ++ ys) ≡ true → (is_among x xs ≡ true) ⊎ (is_among x ys ≡ true)
in_either x xs ys h = or_true (is_among x xs) (is_among x ys) (sym (among_append x xs ys) ∙ h)

-- ---- all but one

without_at : (x k n : ℕ) (xs : List ℕ) (b : Bool) → (n == k) ≡ b
    → (is_among x (without k xs) ≡ true → (is_among x xs ≡ true) × (x ≡ k → ⊥))
    → is_among x (if b then without k xs else n ∷ without k xs) ≡ true → (is_among x (n ∷ xs) ≡ true) × (x ≡ k → ⊥)
without_at x k n xs true is go h = let q = go h in (or_second (n == x) (is_among x xs) q.0, q.1)
without_at x k n xs false is go h = at (or_true (n == x) (is_among x (without k xs)) h)
  where
    at : ((n == x) ≡ true) ⊎ (is_among x (without k xs) ≡ true) → (is_among x (n ∷ xs) ≡ true) × (x ≡ k → ⊥)
    at (inl e) = (or_first (n == x) (is_among x xs) e, λ q. other_number n k is (same_number n x e ∙ q))
    at (inr e) = let q = go e in (or_second (n == x) (is_among x xs) q.0, q.1)

pub among_without : (x k : ℕ) (xs : List ℕ) → is_among x (without k xs) ≡ true → (is_among x xs ≡ true) × (x ≡ k → ⊥)
among_without x k [] h = absurd (cc)
among_without x k (n ∷ xs) h = without_at x k n xs (n == k) refl (λ q. among_without x k xs q) h

to_without_at : (x k n : ℕ) (xs : List ℕ) (b : Bool) → (n == k) ≡ b → (x ≡ k → ⊥)
    → (is_among x xs ≡ true → is_among x (without k xs) ≡ true)
    → is_among x (n ∷ xs) ≡ true → is_among x (if b then without k xs else n ∷ without k xs) ≡ true
to_without_at x k n xs true is other go h = at (or_true (n == x) (is_among x xs) h)
  where
    at : ((n == x) ≡ true) ⊎ (is_among x xs ≡ true) → is_among x (without k xs) ≡ true
    at (inl e) = absurd (other (sym (same_number n x e) ∙ same_number n k is))
    at (inr e) = go e
to_without_at x k n xs false is other go h = at (or_true (n == x) (is_among x xs) h)
  where
    at : ((n == x) ≡ true) ⊎ (is_among x xs ≡ true) → is_among x (n ∷ without k xs) ≡ true
    at (inl e) = or_first (n == x) (is_among x (without k xs)) e
    at (inr e) = or_second (n == x) (is_among x (without k xs)) (go e)

pub to_without : (x k : ℕ) (xs : List ℕ) → (x ≡ k → ⊥) → is_among x xs ≡ true → is_among x (without k xs) ≡ true
to_without x k [] other h = absurd (cc)
to_without x k (n ∷ xs) other h = to_without_at x k n xs (n == k) refl other (λ q. to_without x k xs other q) h

-- ---- the numbers up to one

numbers_at : (n k : ℕ) (b : Bool) → (suc n == k) ≡ b → (k ≤ n → is_among k (numbers_to n) ≡ true) → k ≤ suc n → is_among k (numbers_to n ++ suc n ∷ []) ≡ true
numbers_at n k true is go high = in_second k (numbers_to n) (suc n ∷ []) (or_first (suc n == k) false is)
numbers_at n k false is go high =
    let d : suc n ≡ k → ⊥ = other_number (suc n) k is in
    let low : k ≤ n = grind (arith, d, high) in
    in_first k (numbers_to n) (suc n ∷ []) (go low)

pub among_numbers : (n k : ℕ) → 1 ≤ k → k ≤ n → is_among k (numbers_to n) ≡ true
among_numbers zero k low high = absurd (omega (arith, low, high))
among_numbers (suc n) k low high = numbers_at n k (suc n == k) refl (λ q. among_numbers n k low q) high
