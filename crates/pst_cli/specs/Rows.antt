-- The lines of items in rows, which several threads write.
use Rattle.std.specs.Prelude.{◌≡◌, ℕ, ◌+◌, ◌*◌, List, ◌++◌, String, drop, length, min, string_bytes}
use Rattle.std.specs.declared.alloc.Global.{Global}
use Rattle.pst_cli.specs.Output.{item_lines}
use Rattle.pst_judge.specs.declared.judgement.Judged.{Judged}

-- how many of so many items stand before a row
abbrev pub first_of : ℕ → ℕ → ℕ
first_of row count = min (row * 512) count

-- the lines of all items but the first ones
abbrev pub lines_behind : List Judged → ℕ → List ℕ
lines_behind all before = item_lines (before + 1) (drop before all)

-- the lines from the first item of a row on
abbrev pub lines_from : List Judged → ℕ → List ℕ
lines_from all row = lines_behind all (first_of row (length all))

-- the text, and behind it the lines from the next row on, are the lines from the row on
abbrev pub IsRow : List Judged → ℕ → String Global → Type 0
IsRow all row text = lines_from all row ≡ string_bytes text ++ lines_from all (row + 1)
