-- Lists of one value.
use Rattle.std.proofs.Common.{◌≡◌, ℕ, zero, suc, ◌+◌, [], ◌∷◌, ◌++◌, refl, ap, ◌∙◌, arith}
use Rattle.std.specs.Prelude.{replicate}

module _ {A : Type 0} where
  more : (n : ℕ) (a : A) → replicate n a ++ a ∷ [] ≡ replicate (suc n) a
  more zero a = refl
  more (suc n) a = ap (λ l. a ∷ l) (more n a)

  pub replicate-more : (n : ℕ) (a : A) → replicate n a ++ a ∷ [] ≡ replicate (n + 1) a
  replicate-more n a = let e : suc n ≡ n + 1 = omega arith in more n a ∙ ap (λ (k : ℕ). replicate k a) e
