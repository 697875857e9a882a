use Rattle.std.proofs.Common.{◌++◌, List, ℕ, map, length}
use Rattle.pst_rejudge.specs.Parts.{AreParts}
use Rattle.pst_rejudge.proofs.parts.split_input_into_parts.Given as goal

-- what the rest is parted into stands behind the parts that were found
abbrev pub invariant-loop-at : goal.invariant-loop-at
invariant-loop-at l =
    (behind : List (List ℕ)) → AreParts l.rest behind → AreParts l.input (map (λ part. part.now) l.parts.items ++ behind)

abbrev pub decreases-loop-at : goal.decreases-loop-at
decreases-loop-at l = length l.rest
