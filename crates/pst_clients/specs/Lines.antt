-- Lines of clients.
use Rattle.std.specs.Prelude.{◌≢◌, ℕ, ◌≤◌, ◌==◌, Bool, List, All, length}
use Rattle.std.specs.List.{list_any}

-- no byte ends the line, and it has at most 1 MiB
abbrev pub IsShortLine : List ℕ → Type 0
IsShortLine line = All (λ byte. byte ≢ 10) line × (length line ≤ 1048576)

-- the line has the byte by which a launcher marks what it says itself
abbrev pub has_mark : List ℕ → Bool
has_mark line = list_any (λ byte. byte == 24) line
