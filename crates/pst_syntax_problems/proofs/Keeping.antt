-- Adding as many as there is room for, in parts.
use Rattle.std.proofs.Common.{◌≡◌, ℕ, zero, suc, ◌+◌, ◌-◌, ◌<◌, ◌≤◌, List, [], ◌∷◌, ◌++◌, length, take, map, refl, sym, ap, ◌∙◌, append_assoc, arith, length-append}
use Rattle.std.specs.Prelude.{min}
use Rattle.std.proofs.lemmas.List.{length-take, map-append}
use Rattle.pst_syntax_problems.specs.Kept.{keep}

no_more : {A : Type 0} (xs : List A) → xs ++ [] ≡ xs
no_more [] = refl
no_more (x ∷ xs) = ap (λ more. x ∷ more) (no_more xs)

take_none : {A : Type 0} (n : ℕ) → take {A = A} n [] ≡ []
take_none zero = refl
take_none (suc n) = refl

take_both : {A : Type 0} (n : ℕ) (xs ys : List A) → take n (xs ++ ys) ≡ take n xs ++ take (n - length xs) ys
take_both zero xs ys = let e : 0 ≡ 0 - length xs = omega arith in ap (λ k. take k ys) e
take_both {A = A} (suc n) [] ys = let e : suc n ≡ suc n - 0 = omega arith in ap (λ k. take k ys) e
take_both (suc n) (x ∷ xs) ys =
    let e : n - length xs ≡ suc n - length (x ∷ xs) = omega arith in
    ap (λ more. x ∷ more) (take_both n xs ys) ∙ ap (λ k. x ∷ (take n xs ++ take k ys)) e

pub keep_none : {A : Type 0} (limit : ℕ) (some : List A) → keep limit some [] ≡ some
unfolding keep
keep_none limit some = ap (λ more. some ++ more) (take_none (limit - length some)) ∙ no_more some

pub keep_both : {A : Type 0} (limit : ℕ) (some xs ys : List A) → keep limit some (xs ++ ys) ≡ keep limit (keep limit some xs) ys
unfolding keep
keep_both limit some xs ys =
    let k = limit - length some in
    let l : length (some ++ take k xs) ≡ length some + min k (length xs) = length-append some (take k xs) ∙ ap (λ n. length some + n) (length-take k xs) in
    let e : k - length xs ≡ limit - length (some ++ take k xs) = omega (arith, l) in
    ap (λ more. some ++ more) (take_both k xs ys) ∙ sym (append_assoc some (take k xs) (take (k - length xs) ys))
    ∙ ap (λ n. (some ++ take k xs) ++ take n ys) e

pub keep_full : {A : Type 0} (limit : ℕ) (some more : List A) → limit ≤ length some → keep limit some more ≡ some
unfolding keep
keep_full limit some more h =
    let e : limit - length some ≡ 0 = omega arith in
    ap (λ n. some ++ take n more) e ∙ no_more some

pub keep_one : {A : Type 0} (limit : ℕ) (some : List A) (a : A) → length some < limit → keep limit some (a ∷ []) ≡ some ++ a ∷ []
unfolding keep
keep_one limit some a h =
    let e : limit - length some ≡ suc (limit - suc (length some)) = omega arith in
    ap (λ n. some ++ take n (a ∷ [])) e ∙ ap (λ more. some ++ a ∷ more) (take_none (limit - suc (length some)))

pub keep_from_none : {A : Type 0} (limit : ℕ) (xs : List A) → keep limit [] xs ≡ take limit xs
unfolding keep
keep_from_none limit xs = let e : limit - 0 ≡ limit = omega arith in ap (λ n. take n xs) e

pub ruleset keeping = (keep_none, keep_both, keep_full, keep_one, keep_from_none)
