-- One more command of a branch.
use Rattle.std.proofs.Common.{◌≡◌, ℕ, suc, ◌+◌, ◌<◌, ◌≤◌, ◌⊎◌, inl, inr, List, [], ◌∷◌, length, get_or, sum, sym, subst, ◌∙◌, arith}
use Rattle.std.proofs.lemmas.Bool.{cases_eq, cases_lt}
use Rattle.std.proofs.lemmas.List.{get_or-set_same, get_or-set_other, length-set, get_or_past}
use Rattle.std.proofs.lemmas.List.Sums.{sum_by-set, sum_by-cons}
use Rattle.pst_grid.specs.Completions.{IsAt}
use Rattle.pst_grid.specs.Merges.{one_more}

-- one more command of a branch that has one left
module _ (lengths done : List ℕ) (b : ℕ) (at : IsAt lengths done) (left : get_or done b 0 < get_or lengths b 0) where
  pub IsAt-branch : b < length done
  IsAt-branch = by (cases_lt b (length done))
    where
      by : (b < length done) ⊎ (length done ≤ b) → b < length done
      by (inl h) = h
      by (inr h) = let e = at.branches in absurd (omega (arith, get_or_past lengths b 0 (omega arith)))

  pub IsAt-more : IsAt lengths (one_more done b)
  IsAt-more = record { branches = length-set done b (get_or done b 0 + 1) ∙ at.branches; within = within }
    where
      within : (c : ℕ) → get_or (one_more done b) c 0 ≤ get_or lengths c 0
      within c = by (cases_eq c b)
        where
          by : (c ≡ b) ⊎ (c ≡ b → ⊥) → get_or (one_more done b) c 0 ≤ get_or lengths c 0
          by (inl e) = subst (λ x. get_or (one_more done b) x 0 ≤ get_or lengths x 0) (sym e) (omega (arith, get_or-set_same done b (get_or done b 0 + 1) 0 IsAt-branch))
          by (inr ne) = omega (arith, get_or-set_other done b c (get_or done b 0 + 1) 0 ne, at.within c)

  pub sum-more : sum (one_more done b) ≡ sum done + 1
  sum-more = omega (arith, sum_by-set (λ x. x) done b (get_or done b 0 + 1) 0 IsAt-branch)

pub sum-le : (xs ys : List ℕ) → length xs ≡ length ys → ((b : ℕ) → get_or xs b 0 ≤ get_or ys b 0) → sum xs ≤ sum ys
sum-le [] ys e h = omega arith
sum-le (x ∷ xs) [] e h = absurd (omega arith)
sum-le (x ∷ xs) (y ∷ ys) e h = let k : x ≤ y = h 0 in let i = sum-le xs ys (omega arith) (λ b. h (suc b)) in omega (arith, sum_by-cons (λ a. a) x xs, sum_by-cons (λ a. a) y ys)

-- the commands that are left grow fewer
pub sum-left : (lengths done : List ℕ) (b : ℕ) (at : IsAt lengths done) → get_or done b 0 < get_or lengths b 0 → sum done < sum lengths
sum-left lengths done b at left =
    let more = IsAt-more lengths done b at left in
    omega (arith, sum-le (one_more done b) lengths more.branches more.within, sum-more lengths done b at left)
