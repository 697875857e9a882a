-- How many calls of columns have values: no more than there are.
use Rattle.std.proofs.Common.{◌≡◌, ℕ, zero, suc, ◌+◌, ◌≤◌, Bool, true, false, if◌then◌else◌, List, [], ◌∷◌, length, map, slice_index, sum, sym, ◌∙◌, arith}
use Rattle.std.proofs.lemmas.List.{length-map}
use Rattle.pst_grid.proofs.Placing.{sum-le}
use Rattle.pst_judge.specs.UnknownCalls.{has_unknown_outcome, known_count}
use Rattle.pst_judge.specs.declared.events.Event.{Event}

count_within : (es : List Event) → known_count es ≤ length es
count_within [] = omega arith
count_within (e ∷ es) = by (has_unknown_outcome e) (count_within es)
  where
    by : (b : Bool) → known_count es ≤ length es → (if b then 0 else 1) + known_count es ≤ suc (length es)
    by true h = omega arith
    by false h = omega arith

pub counts_within : (cols : List (List Event)) (b : ℕ) → slice_index (map known_count cols) b ≤ slice_index (map length cols) b
counts_within [] b = omega arith
counts_within (es ∷ cols) zero = count_within es
counts_within (es ∷ cols) (suc b) = counts_within cols b

pub same_columns : (cols : List (List Event)) → length (map known_count cols) ≡ length (map length cols)
same_columns cols = length-map cols known_count ∙ sym (length-map cols length)

pub sum_within : (cols : List (List Event)) → sum (map known_count cols) ≤ sum (map length cols)
sum_within cols = sum-le (map known_count cols) (map length cols) (same_columns cols) (counts_within cols)
