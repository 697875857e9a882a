-- Tests of the shapes among trees that have one or none.
use Rattle.std.proofs.Common.{◌≡◌, ℕ, ◌+◌, Bool, false, List, [], ◌∷◌, ◌++◌, map, Option, Some, None, refl, sym, ap, ◌∙◌, arith}
use Rattle.std.specs.Prelude.{◌||◌, ◌&&◌, cond}
use Rattle.std.specs.List.{list_any, count_by, fold}
use Rattle.std.proofs.lemmas.List.{map-append}
use Rattle.pst_syntax.specs.ModelFaults.{seen_with}
use Rattle.pst_syntax_problems.specs.SeenShapes.{shapes, holds}

one_any : {S : Type 0} (p : S → Bool) (o : Option S) (more : List (Option S)) → list_any p (shapes (o ∷ more)) ≡ (holds p o || list_any p (shapes more))
one_any p None more = refl
one_any p (Some s) more = refl

pub any_shown : {A S : Type 0} (p : S → Bool) (f : A → Option S) (xs : List A) → list_any p (shapes (map f xs)) ≡ list_any (λ x. holds p (f x)) xs
any_shown p f [] = refl
any_shown p f (x ∷ xs) = one_any p (f x) (map f xs) ∙ ap (λ b. holds p (f x) || b) (any_shown p f xs)

one_count : {S : Type 0} (p : S → Bool) (n : ℕ) (o : Option S) (more : List (Option S)) → fold (λ n s. n + cond (p s) 1 0) n (shapes (o ∷ more)) ≡ fold (λ n s. n + cond (p s) 1 0) (n + cond (holds p o) 1 0) (shapes more)
one_count p n None more = let e : n ≡ n + 0 = omega arith in ap (λ (n : ℕ). fold (λ n s. n + cond (p s) 1 0) n (shapes more)) e
one_count p n (Some s) more = refl

counted : {A S : Type 0} (p : S → Bool) (f : A → Option S) (n : ℕ) (xs : List A) → fold (λ n s. n + cond (p s) 1 0) n (shapes (map f xs)) ≡ fold (λ n a. n + cond (holds p (f a)) 1 0) n xs
counted p f n [] = refl
counted p f n (x ∷ xs) = one_count p n (f x) (map f xs) ∙ counted p f (n + cond (holds p (f x)) 1 0) xs

pub count_shown : {A S : Type 0} (p : S → Bool) (f : A → Option S) (xs : List A) → count_by p (shapes (map f xs)) ≡ count_by (λ x. holds p (f x)) xs
count_shown p f xs = counted p f 0 xs

with_first : {S : Type 0} (s : S) (seen : List S) (o : Option S) → s ∷ seen_with seen o ≡ seen_with (s ∷ seen) o
with_first s seen None = refl
with_first s seen (Some t) = refl

one_more : {S : Type 0} (os : List (Option S)) (o : Option S) → shapes (os ++ o ∷ []) ≡ seen_with (shapes os) o
one_more [] None = refl
one_more [] (Some s) = refl
one_more (None ∷ os) o = one_more os o
one_more (Some s ∷ os) o = ap (λ more. s ∷ more) (one_more os o) ∙ with_first s (shapes os) o

pub shown_more : {A S : Type 0} (f : A → Option S) (xs : List A) (x : A) → shapes (map f (xs ++ x ∷ [])) ≡ seen_with (shapes (map f xs)) (f x)
shown_more f xs x = ap shapes (map-append f xs (x ∷ [])) ∙ one_more (map f xs) (f x)

pub all_shown : {A S : Type 0} (p q r : S → Bool) (f : A → Option S) (xs : List A) → (list_any p (shapes (map f xs)) && list_any q (shapes (map f xs)) && list_any r (shapes (map f xs))) ≡ (list_any (λ x. holds p (f x)) xs && list_any (λ x. holds q (f x)) xs && list_any (λ x. holds r (f x)) xs)
all_shown p q r f xs = λ i. any_shown p f xs i && any_shown q f xs i && any_shown r f xs i

pub ruleset seen = (any_shown, count_shown, shown_more)
