-- How the counts are packed into a word.
use Rattle.std.specs.Prelude.{ℕ, zero, suc, ◌+◌, ◌-◌, ◌*◌, ◌/◌, ◌%◌, ◌==◌, Bool, true, nat_lt, nat_le, ◌&&◌, List, [], ◌∷◌, length, Option, Some, None, if◌then◌else◌}
use Rattle.std.specs.Hash as fed
use Rattle.std.specs.Hash.{HashWrites}

-- each count is below 65,535
abbrev pub are_small : List ℕ → Bool
are_small [] = true
are_small (count ∷ done) = nat_lt count 65_535 && are_small done

-- a word holds at most four small counts
abbrev pub fits : List ℕ → Bool
fits done = nat_le (length done) 4 && are_small done

-- the word whose digits, to the base 65,536, are the counts plus one, the first count lowest
abbrev pub word_of : List ℕ → ℕ
word_of [] = 0
word_of (count ∷ done) = word_of done * 65_536 + (count + 1)

-- the counts in the lowest digits, up to so many of them or to the first digit 0
abbrev pub counts_in : ℕ → ℕ → List ℕ
counts_in zero word = []
counts_in (suc digits) word =
    if word == 0 then [] else (word % 65_536 - 1) ∷ counts_in digits (word / 65_536)

-- the word that holds these counts, if one does
abbrev pub word_for : List ℕ → Option ℕ
word_for done = if fits done then Some (word_of done) else None

-- what the counts feed a hasher: their word, or else each of them
abbrev pub hash_input_of : List ℕ → HashWrites
hash_input_of done = if fits done then fed.u64 (word_of done) else fed.slice fed.usize done
