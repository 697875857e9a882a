-- Completions of a merge that is begun.
use Rattle.std.proofs.Common.{◌≡◌, ℕ, ◌+◌, ◌<◌, ◌≤◌, ◌⊎◌, inl, inr, List, [], ◌∷◌, length, get_or, Bool, true, sym, subst, ◌∙◌, arith}
use Rattle.std.proofs.lemmas.Bool.{cases_eq, cases_lt}
use Rattle.std.proofs.lemmas.Bool.Decides.{nat_tests}
use Rattle.std.proofs.lemmas.List.{get_or-set_same, get_or-set_other, get_or_past}
use Rattle.pst_grid.specs.Orders.{Extends}
use Rattle.pst_grid.specs.Completions.{Completes}
use Rattle.pst_grid.specs.Merges.{times, one_more}

-- a word that begins with a letter below b
abbrev pub StartsBelow : ℕ → List ℕ → Type 0
StartsBelow b [] = ⊥
StartsBelow b (a ∷ w) = a < b

-- the words in order that begin with a letter below b
abbrev pub BeginsBelow : (List ℕ → ℕ → Bool) → List ℕ → List ℕ → ℕ → List ℕ → Type 0
BeginsBelow order lengths done b w = StartsBelow b w × Extends order lengths done w

-- one more command of branch b is one letter b
pub one_more-times : (done : List ℕ) (b c : ℕ) (w : List ℕ) → b < length done → get_or (one_more done b) c 0 + times c w ≡ get_or done c 0 + times c (b ∷ w)
one_more-times done b c w h = by (cases_eq b c)
  where
    by : (b ≡ c) ⊎ (b ≡ c → ⊥) → get_or (one_more done b) c 0 + times c w ≡ get_or done c 0 + times c (b ∷ w)
    by (inl e) = subst (λ x. get_or (one_more done b) x 0 + times x w ≡ get_or done x 0 + times x (b ∷ w)) e (rw (get_or-set_same done b (get_or done b 0 + 1) 0 h) (grind (arith, nat_tests)))
    by (inr ne) = let k : c ≡ b → ⊥ = λ e. ne (sym e) in rw (get_or-set_other done b c (get_or done b 0 + 1) 0 k) (grind (arith, nat_tests))

pub Completes-head : (lengths done : List ℕ) (b : ℕ) (w : List ℕ) → Completes lengths done (b ∷ w) → get_or done b 0 < get_or lengths b 0
Completes-head lengths done b w h = let k = h b in grind (arith, nat_tests)

module _ (lengths done : List ℕ) (b : ℕ) (h : b < length done) where
  pub Completes-tail : (w : List ℕ) → Completes lengths done (b ∷ w) → Completes lengths (one_more done b) w
  Completes-tail w k = λ c. one_more-times done b c w h ∙ k c

  pub Completes-cons : (w : List ℕ) → Completes lengths (one_more done b) w → Completes lengths done (b ∷ w)
  Completes-cons w k = λ c. sym (one_more-times done b c w h) ∙ k c

module _ (order : List ℕ → ℕ → Bool) (lengths done : List ℕ) (b : ℕ) (h : b < length done) where
  pub Extends-tail : (w : List ℕ) → Extends order lengths done (b ∷ w) → Extends order lengths (one_more done b) w
  Extends-tail w k = (Completes-tail lengths done b h w k.0, k.1.1)

  pub Extends-cons : order done b ≡ true → (w : List ℕ) → Extends order lengths (one_more done b) w → Extends order lengths done (b ∷ w)
  Extends-cons o w k = (Completes-cons lengths done b h w k.0, (o, k.1))

-- a letter of a completion is a branch
pub Completes-letter : (lengths done : List ℕ) (b : ℕ) (w : List ℕ) → Completes lengths done (b ∷ w) → b < length lengths
Completes-letter lengths done b w h = by (cases_lt b (length lengths))
  where
    by : (b < length lengths) ⊎ (length lengths ≤ b) → b < length lengths
    by (inl k) = k
    by (inr k) = absurd (omega (arith, Completes-head lengths done b w h, get_or_past lengths b 0 k))
