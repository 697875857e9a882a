-- A search for a fault agrees with a reading: it finds none exactly where something is read.
use Rattle.std.proofs.Common.{◌≡◌, ℕ, ◌+◌, ◌<◌, ◌≤◌, nat_lt, Bool, true, false, cond, not, List, [], ◌∷◌, length, Option, Some, None, inl, inr, refl, sym, ap, ◌∙◌, arith}
use Rattle.std.specs.List.{position, position_or_len}
use Rattle.std.specs.Option.{is_some, is_none, option_map, option_or}
use Rattle.std.proofs.lemmas.Bool.{cases_lt}
use Rattle.std.proofs.lemmas.Bool.Decides.{nat_tests}
use Rattle.pst_runs.specs.Values.{each}
use Rattle.pst_sexpr.specs.Parts.{and_then}

pub record Agrees {A B : Type 0} (fault : Option A) (read : Option B) : Type 0 where
  pub same : is_none fault ≡ is_some read

-- nothing is read where a fault is found
pub both_agree : {A B : Type 0} (z : A) → Agrees {A = A} {B = B} (Some z) None
both_agree z = record { same = refl }

pub none_agree : {A B : Type 0} (b : B) → Agrees {A = A} {B = B} None (Some b)
none_agree b = record { same = refl }

-- a fault of the first part, or else one of the others
pub then_agree : {A B C : Type 0} (x y : Option A) (o : Option B) (f : B → Option C) → Agrees x o → ((b : B) → o ≡ Some b → Agrees y (f b)) → Agrees (option_or x y) (and_then o f)
then_agree None y None f h k = absurd (let e : true ≡ false = h.same in cc)
then_agree None y (Some b) f h k = k b refl
then_agree (Some a) y None f h k = record { same = refl }
then_agree (Some a) y (Some b) f h k = absurd (let e : false ≡ true = h.same in cc)

-- a fault that is found in any case
pub found_agree : {A B : Type 0} (x : Option A) (z : A) → Agrees {A = A} {B = B} (option_or x (Some z)) None
found_agree None z = record { same = refl }
found_agree (Some a) z = record { same = refl }

-- a fault that is found in the others
pub later_found : {A B : Type 0} (x y : Option A) → Agrees {A = A} {B = B} y None → Agrees {A = A} {B = B} (option_or x y) None
later_found None y h = h
later_found (Some a) y h = record { same = refl }

pub map_agree : {A B C : Type 0} (x : Option A) (g : A → B) (o : Option C) → Agrees x o → Agrees (option_map g x) o
map_agree None g o h = record { same = h.same }
map_agree (Some a) g o h = record { same = h.same }

pub some_agree : {A B C : Type 0} (x : Option A) (o : Option B) (g : B → C) → Agrees x o → Agrees x (and_then o (λ b. Some (g b)))
some_agree x None g h = record { same = h.same }
some_agree x (Some b) g h = record { same = h.same }

pub nested_agree : {A B C D : Type 0} (x : Option A) (o : Option B) (f : B → Option C) (g : C → Option D) → Agrees x (and_then o (λ b. and_then (f b) g)) → Agrees x (and_then (and_then o f) g)
nested_agree x None f g h = h
nested_agree x (Some b) f g h = h

-- ---- the first that is refused

none_cond : (b : Bool) (n : ℕ) → is_none (cond b (Some n) None) ≡ not b
none_cond true n = refl
none_cond false n = refl

less_true : (a b : ℕ) → a < b → nat_lt a b ≡ true
less_true a b h = grind (arith, nat_tests)

less_false : (a b : ℕ) → b ≤ a → nat_lt a b ≡ false
less_false a b h = grind (arith, nat_tests)

less_same : (a b c d : ℕ) → a ≡ 1 + c → b ≡ 1 + d → nat_lt a b ≡ nat_lt c d
less_same a b c d e f =
    elim (cases_lt c d) [
      | inl h ↦ let k : a < b = omega arith in less_true a b k ∙ sym (less_true c d h)
      | inr h ↦ let k : b ≤ a = omega arith in less_false a b k ∙ sym (less_false c d h)
    ]

first_at : {X : Type 0} (p : X → Bool) (x : X) (xs : List X) (b : Bool) → p x ≡ b → is_none (position p (x ∷ xs)) ≡ cond b false (is_none (position p xs))
first_at p x xs true e =
    let l : 0 < length (x ∷ xs) = omega arith in
    none_cond _ _ ∙ rw e (rw (less_true 0 (length (x ∷ xs)) l) refl)
first_at p x xs false e =
    let n : ℕ = position_or_len p xs in
    let l : length (x ∷ xs) ≡ 1 + length xs = omega arith in
    none_cond _ _ ∙ rw e (rw (less_same (1 + n) (length (x ∷ xs)) n (length xs) refl l) (sym (none_cond _ _)))

seen : {A : Type 0} (b : Bool) (read : Option A) (rest : Bool) (more : Option (List A)) → b ≡ not (is_some read) → rest ≡ is_some more → cond b false rest ≡ is_some (and_then read (λ a. and_then more (λ bs. Some (a ∷ bs))))
seen b None rest more e h = rw e refl
seen b (Some a) rest None e h = rw e h
seen b (Some a) rest (Some bs) e h = rw e h

-- no tree fails the test exactly where each is read
pub each_agree : {A B : Type 0} (p : A → Bool) (f : A → Option B) → ((a : A) → p a ≡ not (is_some (f a))) → (xs : List A) → is_none (position p xs) ≡ is_some (each f xs)
each_agree p f h [] = refl
each_agree p f h (x ∷ xs) =
    first_at p x xs (p x) refl
    ∙ seen (p x) (f x) _ (each f xs) (h x) (each_agree p f h xs)

-- as many are read as there are
counted_as : {A B : Type 0} (f : A → Option B) (o : Option B) (xs : List A) (more : Option (List B)) → ((bs : List B) → more ≡ Some bs → length bs ≡ length xs) → (x : A) (bs : List B) → and_then o (λ b. and_then more (λ bs. Some (b ∷ bs))) ≡ Some bs → length bs ≡ length (x ∷ xs)
counted_as f None xs more h x bs e = absurd (cc)
counted_as f (Some b) xs None h x bs e = absurd (cc)
counted_as f (Some b) xs (Some more) h x bs e =
    let same : b ∷ more ≡ bs = cc in
    let k : length more ≡ length xs = h more refl in
    rw (← same) (omega (arith, k))

pub length_each : {A B : Type 0} (f : A → Option B) (xs : List A) (bs : List B) → each f xs ≡ Some bs → length bs ≡ length xs
length_each f [] bs e = let same : [] ≡ bs = cc in rw (← same) refl
length_each f (x ∷ xs) bs e = counted_as f (f x) xs (each f xs) (length_each f xs) x bs e
