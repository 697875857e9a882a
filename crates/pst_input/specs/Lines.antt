-- The lines of an input that begin with `{`, and the first tree.
use Rattle.std.specs.Prelude.{ℕ, suc, ◌+◌, ◌==◌, Bool, true, false, ◌&&◌, nat_lt, if◌then◌else◌}
use Rattle.std.specs.Prelude.{List, [], ◌∷◌, length, drop, Option, Some, None}
use Rattle.pst_sources.specs.Scanning.{blanks, tree_bytes}
use Rattle.pst_sources.specs.declared.scan.State.TheVariants.{Between}

-- the place of the first line that begins with `{`, in bytes that begin at a place; a line begins there, or not
abbrev pub json_start_from : Bool → ℕ → List ℕ → Option ℕ
json_start_from is_begin at [] = None
json_start_from is_begin at (byte ∷ bytes) =
    if is_begin && byte == 123 then Some at else json_start_from (byte == 10) (suc at) bytes

-- the place of the first line that begins with `{`
abbrev pub json_start : List ℕ → Option ℕ
json_start input = json_start_from true 0 input

-- a blank in place of a byte of a line that begins with `{`; the line end stays
abbrev pub blank_for : Bool → ℕ → ℕ
blank_for is_json byte = if is_json then (if byte == 10 then byte else 32) else byte

-- the line of a byte begins with `{`, by whether it begins with the byte, or else whether the line so far does
abbrev pub is_json_line : (is_begin is_json : Bool) → ℕ → Bool
is_json_line is_begin is_json byte = if is_begin then byte == 123 else is_json

abbrev pub blanked_from : (is_begin is_json : Bool) → List ℕ → List ℕ
blanked_from is_begin is_json [] = []
blanked_from is_begin is_json (byte ∷ bytes) =
    blank_for (is_json_line is_begin is_json byte) byte ∷ blanked_from (byte == 10) (is_json_line is_begin is_json byte) bytes

-- the input with blanks in place of its lines that begin with `{`
abbrev pub blanked : List ℕ → List ℕ
blanked input = blanked_from true false input

-- the place after the first tree; the end of the bytes if the tree goes to their end, or if there is none
abbrev pub first_tree_end : List ℕ → ℕ
first_tree_end bytes = blanks Between bytes + tree_bytes (drop (blanks Between bytes) bytes)

-- the first tree ends before the end of the bytes
abbrev pub has_first_tree : List ℕ → Bool
has_first_tree bytes = nat_lt (first_tree_end bytes) (length bytes)
