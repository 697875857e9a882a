-- The words that complete a merge which is begun.
use Rattle.std.specs.Prelude.{◌≡◌, ℕ, ◌+◌, ◌≤◌, ◌-◌, List, [], ◌∷◌, ◌++◌, length, slice_index, suc, replicate}
use Rattle.pst_grid.specs.Merges.{times}

-- how many commands of each branch are done: a number for each branch, within its length
pub record IsAt (lengths done : List ℕ) : Type 0 where
  pub branches : length done ≡ length lengths
  pub within : (b : ℕ) → slice_index done b ≤ slice_index lengths b

-- the words that complete a merge where so many commands of each branch are done
abbrev pub Completes : List ℕ → List ℕ → List ℕ → Type 0
Completes lengths done word = (b : ℕ) → slice_index done b + times b word ≡ slice_index lengths b

-- the letters that are left, in order: branch by branch, from branch b on
abbrev pub fill_from : ℕ → List ℕ → List ℕ → List ℕ
fill_from b [] done = []
fill_from b (l ∷ lengths) [] = []
fill_from b (l ∷ lengths) (d ∷ done) = replicate (l - d) b ++ fill_from (suc b) lengths done
