-- How the counts are kept.
use Rattle.std.specs.Prelude.{◌≡◌, ℕ, true, false, List}
use Rattle.pst_grid.specs.declared.position.Packing.{Packing}
use Rattle.pst_grid.specs.declared.position.Packing.TheVariants.{Word, Counts}
use Rattle.pst_grid.specs.DoneCounts.{fits, word_of, counts_in}

-- the counts that a packing keeps
abbrev pub counts_of : Packing → List ℕ
counts_of (Word word) = counts_in 4 word
counts_of (Counts counts) = counts.value.items

-- a word holds just the counts that fit in one
abbrev pub IsPacked : Packing → Type 0
IsPacked (Word word) = (fits (counts_in 4 word) ≡ true) × (word_of (counts_in 4 word) ≡ word)
IsPacked (Counts counts) = fits counts.value.items ≡ false
