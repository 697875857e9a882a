-- The least word in order.
use Rattle.std.proofs.Common.{◌≡◌, ℕ, zero, suc, ◌+◌, ◌<◌, ◌≤◌, ◌⊎◌, inl, inr, List, [], ◌∷◌, ◌++◌, length, get_or, sum, Bool, true, false, true≢false, refl, sym, ap, subst, ◌∙◌, arith, append_assoc}
use Rattle.std.proofs.lemmas.Bool.{cases_lt}
use Rattle.std.proofs.lemmas.List.{get_or_past}
use Rattle.pst_grid.specs.Completions.{IsAt}
use Rattle.pst_grid.specs.Merges.{IsUpTo, one_more}
use Rattle.pst_grid.specs.Orders.{Extends, IsOpen, IsFirstOpen, IsNoneOpen, IsFilled, NeverBlocks}
use Rattle.pst_grid.proofs.Completing.{Completes-head, Extends-tail, Extends-cons}
use Rattle.pst_grid.proofs.Placing.{IsAt-branch, IsAt-more, sum-more, sum-left}

module _ (order : List ℕ → ℕ → Bool) (lengths : List ℕ) where
  -- it extends the merge
  pub Extends-filled : (done w : List ℕ) → IsAt lengths done → IsFilled order lengths done w → Extends order lengths done w
  Extends-filled done [] at full = ((λ b. let p = full b in let q = at.within b in omega arith), tt)
  Extends-filled done (b ∷ w) at h =
      let left = h.0.0.0 in
      Extends-cons order lengths done b (IsAt-branch lengths done b at left) h.0.0.1 w
      (Extends-filled (one_more done b) w (IsAt-more lengths done b at left) h.1)

  -- and no word in order that does comes before it
  pub filled_least : (done w v : List ℕ) → IsAt lengths done → IsFilled order lengths done w → Extends order lengths done v → IsUpTo w v
  filled_least done [] v at h k = tt
  filled_least done (b ∷ w) [] at h k = let left = h.0.0.0 in let e = k.0 b in absurd (omega arith)
  filled_least done (b ∷ w) (a ∷ v) at h k =
      by (cases_lt a b) (cases_lt b a) (λ j. filled_least (one_more done b) w v (IsAt-more lengths done b at h.0.0.0) h.1 j)
    where
      by : (a < b) ⊎ (b ≤ a) → (b < a) ⊎ (a ≤ b) → (Extends order lengths (one_more done b) v → IsUpTo w v) → IsUpTo (b ∷ w) (a ∷ v)
      by (inl x) y again = absurd (h.0.1 a x (Completes-head lengths done a v k.0, k.1.0))
      by (inr x) (inl y) again = inl y
      by (inr x) (inr y) again =
          let e : a ≡ b = omega arith in
          inr (sym e, again (Extends-tail order lengths done b (IsAt-branch lengths done b at h.0.0.0) v (subst (λ c. Extends order lengths done (c ∷ v)) e k)))

  -- where none of the branches is open, no command is left
  pub none-left : (done : List ℕ) → IsAt lengths done → NeverBlocks order lengths → IsNoneOpen order lengths done → (b : ℕ) → get_or lengths b 0 ≤ get_or done b 0
  none-left done at never none b = by (cases_lt (get_or done b 0) (get_or lengths b 0))
    where
      by : (get_or done b 0 < get_or lengths b 0) ⊎ (get_or lengths b 0 ≤ get_or done b 0) → get_or lengths b 0 ≤ get_or done b 0
      by (inl left) = let c = never done at b left in absurd (none c.0 c.1)
      by (inr full) = full

  -- the first open one of some branches, or none is open
  first_below : (done : List ℕ) (n : ℕ) → ((c : ℕ) × IsFirstOpen order lengths done c) ⊎ ((c : ℕ) → c < n → IsOpen order lengths done c → ⊥)
  first_below done zero = inr (λ c l o. omega arith)
  first_below done (suc n) = by (first_below done n) (cases_lt (get_or done n 0) (get_or lengths n 0)) (order done n) refl
    where
      none_of : ((c : ℕ) → c < n → IsOpen order lengths done c → ⊥) → (IsOpen order lengths done n → ⊥) → (c : ℕ) → c < suc n → IsOpen order lengths done c → ⊥
      none_of none other c l o = elim (cases_lt c n) [
        | inl k ↦ none c k o
        | inr k ↦ (let e : c ≡ n = omega arith in other (subst (λ x. IsOpen order lengths done x) e o))
      ]

      by : ((c : ℕ) × IsFirstOpen order lengths done c) ⊎ ((c : ℕ) → c < n → IsOpen order lengths done c → ⊥)
          → (get_or done n 0 < get_or lengths n 0) ⊎ (get_or lengths n 0 ≤ get_or done n 0) → (o : Bool) → order done n ≡ o
          → ((c : ℕ) × IsFirstOpen order lengths done c) ⊎ ((c : ℕ) → c < suc n → IsOpen order lengths done c → ⊥)
      by (inl f) l o e = inl f
      by (inr none) (inr full) o e = inr (none_of none (λ k. let left = k.0 in omega arith))
      by (inr none) (inl left) true e = inl (n, ((left, e), none))
      by (inr none) (inl left) false e = inr (none_of none (λ k. true≢false (sym k.1 ∙ e)))

  -- there is one
  fill_steps : NeverBlocks order lengths → (n : ℕ) (done : List ℕ) → IsAt lengths done → sum lengths ≤ sum done + n → (w : List ℕ) × IsFilled order lengths done w
  fill_steps never zero done at few = ([], full)
    where
      full : (b : ℕ) → get_or lengths b 0 ≤ get_or done b 0
      full b = elim (cases_lt (get_or done b 0) (get_or lengths b 0)) [
        | inl left ↦ absurd (omega (arith, sum-left lengths done b at left))
        | inr k ↦ k
      ]
  fill_steps never (suc n) done at few =
      by (first_below done (length lengths)) (λ c left. fill_steps never n (one_more done c) (IsAt-more lengths done c at left) (omega (arith, sum-more lengths done c at left)))
    where
      within : (c : ℕ) → IsOpen order lengths done c → c < length lengths
      within c o = elim (cases_lt c (length lengths)) [
        | inl k ↦ k
        | inr k ↦ (let left = o.0 in absurd (omega (arith, get_or_past lengths c 0 k)))
      ]

      by : ((c : ℕ) × IsFirstOpen order lengths done c) ⊎ ((c : ℕ) → c < length lengths → IsOpen order lengths done c → ⊥)
          → ((c : ℕ) → get_or done c 0 < get_or lengths c 0 → (w : List ℕ) × IsFilled order lengths (one_more done c) w)
          → (w : List ℕ) × IsFilled order lengths done w
      by (inl f) again = let r = again f.0 f.1.0.0 in (f.0 ∷ r.0, (f.1, r.1))
      by (inr none) again = ([], none-left done at never (λ c o. none c (within c o) o))

  pub fill : NeverBlocks order lengths → (done : List ℕ) → IsAt lengths done → (w : List ℕ) × IsFilled order lengths done w
  fill never done at = fill_steps never (sum lengths) done at (omega arith)

-- a word that is being filled: what fills it from now on fills it from the start
pub record IsFilling (order : List ℕ → ℕ → Bool) (lengths start now word whole : List ℕ) : Type 0 where
  pub place : IsAt lengths now
  pub letters : List ℕ
  pub items : whole ≡ word ++ letters
  pub filled : (w : List ℕ) → IsFilled order lengths now w → IsFilled order lengths start (letters ++ w)

module _ (order : List ℕ → ℕ → Bool) (lengths start word : List ℕ) where
  pub filling-none : IsAt lengths start → (whole : List ℕ) → whole ≡ word ++ [] → IsFilling order lengths start start word whole
  filling-none at whole e = record { place = at; letters = []; items = e; filled = λ w h. h }

  pub filling-more : (now next whole more : List ℕ) (b : ℕ) → IsFilling order lengths start now word whole → IsFirstOpen order lengths now b
      → next ≡ one_more now b → more ≡ whole ++ b ∷ [] → IsFilling order lengths start next word more
  filling-more now next whole more b p first d e = record {
    place = subst (IsAt lengths) (sym d) (IsAt-more lengths now b p.place first.0.0);
    letters = p.letters ++ b ∷ [];
    items = e ∙ ap (λ x. x ++ b ∷ []) p.items ∙ append_assoc word p.letters (b ∷ []);
    filled = λ w h. subst (IsFilled order lengths start) (sym (append_assoc p.letters (b ∷ []) w)) (p.filled (b ∷ w) (first, subst (λ x. IsFilled order lengths x w) d h));
  }
