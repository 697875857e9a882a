-- What stands behind an `Ok`.
use Rattle.std.proofs.Common.{◌≡◌, ℕ, ◌&&◌, Bool, true, false, List, [], ◌∷◌, Option, Some, None, Result, Ok, Err, refl, ap}
use Rattle.pst_runs.specs.Replies.{◌>>=◌, then_more, or_number}

pub both : (x y : Bool) → (x && y) ≡ true → (x ≡ true) × (y ≡ true)
both true y h = (refl, h)
both false y h = absurd (cc)

pub joined_true : (x y : Bool) → x ≡ true → y ≡ true → (x && y) ≡ true
joined_true true true h k = refl
joined_true true false h k = absurd (cc)
joined_true false y h k = absurd (cc)

pub bound : {A B E : Type 0} (r : Result A E) (f : A → Result B E) (b : B) → (r >>= f) ≡ Ok b → (a : A) × (r ≡ Ok a) × (f a ≡ Ok b)
bound (Ok a) f b h = (a, refl, h)
bound (Err e) f b h = absurd (cc)

pub first_and_more : {A E : Type 0} (one : A) (r : Result (List A) E) (out : List A) → then_more one r ≡ Ok out → (more : List A) × (r ≡ Ok more) × ((one ∷ more) ≡ out)
first_and_more one (Ok more) out h = (more, refl, cc)
first_and_more one (Err e) out h = absurd (cc)

pub there : {A : Type 0} (number : ℕ) (o : Option A) (a : A) → or_number number o ≡ Ok a → o ≡ Some a
there number (Some b) a h = let e : b ≡ a = cc in ap (λ x. Some x) e
there number None a h = absurd (cc)
