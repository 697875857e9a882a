-- An outcome whose value is changed, and what follows it.
use Rattle.std.proofs.Common.{◌≡◌, ℕ, zero, suc, refl, ap, ◌∙◌}
use Rattle.pst_eval.proofs.Operating.{By}
use Rattle.pst_eval.specs.Substituted.{mapped}
use Rattle.pst_operators.specs.Outcome.{Outcome, Gives, Faults, Stuck, and_then, turn}

-- if what follows commutes at each value, the whole does
pub commute_then : {A A' B B' : Type 0} (P : A → Type 0) (f : A → A') (g : B → B') (o : Outcome (A × ℕ)) (o' : Outcome (A' × ℕ)) (k : A × ℕ → Outcome (B × ℕ)) (k' : A' × ℕ → Outcome (B' × ℕ))
    → By P o → o' ≡ mapped f o → ((a : A) (t : ℕ) → P a → k' (f a, t) ≡ mapped g (k (a, t))) → and_then o' k' ≡ mapped g (and_then o k)
commute_then P f g (Gives r) o' k k' h e c = ap (λ p. and_then p k') e ∙ c r.0 r.1 h
commute_then P f g (Faults why) o' k k' h e c = ap (λ p. and_then p k') e
commute_then P f g Stuck o' k k' h e c = absurd h

-- a value that the change leaves
pub mapped_leaves : {A : Type 0} (f : A → A) (P : A → Type 0) (o : Outcome (A × ℕ)) → By P o → ((a : A) → P a → f a ≡ a) → mapped f o ≡ o
mapped_leaves f P (Gives r) h leaves = ap (λ a. Gives (a, r.1)) (leaves r.0 h)
mapped_leaves f P (Faults why) h leaves = refl
mapped_leaves f P Stuck h leaves = refl

pub turn_commutes : (t : ℕ) → turn t ≡ mapped (λ u. u) (turn t)
turn_commutes zero = refl
turn_commutes (suc n) = refl
