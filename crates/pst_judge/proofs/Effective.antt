-- The letters of a word of calls up to the last call with a value.
use Rattle.std.proofs.Common.{◌≡◌, ℕ, zero, suc, ◌+◌, ◌≤◌, Bool, true, false, if◌then◌else◌, List, [], ◌∷◌, replicate, slice_index, slice_set, take, refl, sym, ap, ◌∙◌, arith}
use Rattle.pst_grid.specs.Merges.{one_more}
use Rattle.pst_judge.specs.Unknown.{are_reached, effective}

pub zero_at : (n b : ℕ) → slice_index (replicate n 0) b ≡ 0
zero_at zero b = refl
zero_at (suc n) zero = refl
zero_at (suc n) (suc b) = zero_at n b

set_at : (done : List ℕ) (c b x : ℕ) → x ≤ slice_index done c + 1 → slice_index (slice_set done c x) b ≤ slice_index done b + 1
set_at [] c b x h = omega arith
set_at (d ∷ done) zero zero x h = h
set_at (d ∷ done) zero (suc b) x h = omega arith
set_at (d ∷ done) (suc c) zero x h = omega arith
set_at (d ∷ done) (suc c) (suc b) x h = set_at done c b x h

-- one more at most
pub one_more_at : (done : List ℕ) (c b : ℕ) → slice_index (one_more done c) b ≤ slice_index done b + 1
one_more_at done c b = set_at done c b (slice_index done c + 1) (omega arith)

module _ (knowns done word : List ℕ) where
  pub effective_none : word ≡ [] → take 0 word ≡ effective knowns done word
  effective_none w = ap (λ v. take 0 v) w ∙ sym (ap (effective knowns done) w)

  module _ (column : ℕ) (rest : List ℕ) (w : word ≡ column ∷ rest) where
    pub effective_reached : are_reached knowns done ≡ true → take 0 word ≡ effective knowns done word
    effective_reached r =
        ap (λ v. take 0 v) w ∙ ap (λ b. if b then [] else column ∷ effective knowns (one_more done column) rest) (sym r) ∙ sym (ap (effective knowns done) w)

    pub effective_more : (n : ℕ) → are_reached knowns done ≡ false → take n rest ≡ effective knowns (one_more done column) rest → take (1 + n) word ≡ effective knowns done word
    effective_more n r e =
        let q : 1 + n ≡ suc n = omega arith in
        ap (λ (k : ℕ). take k word) q ∙ ap (λ v. take (suc n) v) w ∙ ap (λ v. column ∷ v) e
        ∙ ap (λ b. if b then [] else column ∷ effective knowns (one_more done column) rest) (sym r) ∙ sym (ap (effective knowns done) w)
