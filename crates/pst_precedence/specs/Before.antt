-- What it means to keep precedences.
use Rattle.std.specs.Prelude.{◌≡◌, ◌↔◌, ℕ, ◌<◌, List, take, slice_get, Some}
use Rattle.std.specs.List.{All}
use Rattle.pst_grid.specs.Merges.{IsMerge, times}
use Rattle.pst_grid.specs.Orders.{IsMergeInOrder}
use Rattle.pst_precedence.specs.Precedences.{keeping}
use Rattle.pst_precedence.specs.declared.precedence.Call.{Call}
use Rattle.pst_precedence.specs.declared.precedence.Precedence.{Precedence}

-- the call is at this place of the word: as many letters of its branch are before it as its index says
abbrev pub IsAtPlace : List ℕ → ℕ → Call → Type 0
IsAtPlace word i call = (slice_get word i ≡ Some call.branch) × (times call.branch (take i word) ≡ call.index)

-- wherever the later call is in the word, the earlier one is before it
abbrev pub IsKeptIn : List ℕ → Precedence → Type 0
IsKeptIn word p = (j : ℕ) → IsAtPlace word j p.later → (i : ℕ) × (i < j) × IsAtPlace word i p.earlier

-- the merges in the order `keeping` are those in which each earlier call is before its later one
abbrev pub KeepingIsBefore : Type 0
KeepingIsBefore =
    (lengths : List ℕ) (ps : List Precedence) (word : List ℕ)
    → IsMergeInOrder (keeping ps) lengths word ↔ IsMerge lengths word × All (IsKeptIn word) ps
