-- Lawful names.
use Rattle.std.specs.Prelude.{◌&&◌, ◌||◌, not, ℕ, nat_le, Bool, true, false, List, length, Option, Some, None, codes}
use Rattle.std.specs.Str.{bytes_eq}
use Rattle.pst_model.specs.Names.{is_name}
use Rattle.pst_syntax.specs.declared.words.Head.{Head}
use Rattle.pst_syntax.specs.Heads.{head_of}
use Rattle.pst_syntax.specs.Limits.{max_name}

abbrev pub is_head : Option Head → Bool
is_head None = false
is_head (Some head) = true

-- the words that no function, parameter or bound name may be; those of maps only in a language that has maps
unfoldable pub is_reserved : Bool → List ℕ → Bool
is_reserved has_maps word =
    bytes_eq word (codes "true") || bytes_eq word (codes "false") || bytes_eq word (codes "s")
    || bytes_eq word (codes "r") || is_head (head_of has_maps word)

-- what a function, a parameter or a bound name may be
abbrev pub is_free : Bool → List ℕ → Bool
is_free has_maps word = is_name word && not (is_reserved has_maps word)

abbrev pub is_short : List ℕ → Bool
is_short word = nat_le (length word) max_name

-- a used name that a function, a parameter or a bound name may have
unfoldable pub is_used : Bool → List ℕ → Bool
is_used has_maps word = is_free has_maps word && is_short word

-- a used name that an operation may have
unfoldable pub is_used_operation : List ℕ → Bool
is_used_operation word = is_name word && is_short word
