-- Bytes that a word or a text takes at once. This is private to the crate, as the automaton is.
use Rattle.std.specs.Prelude.{◌≡◌, ℕ, true, List, [], ◌∷◌, ◌++◌}
use Rattle.pst_sexpr.specs.declared.scan.Mode.{Mode}
use Rattle.pst_sexpr.specs.declared.scan.Mode.TheVariants.{Plain, Quoted, Escaped, Comment}
use Rattle.pst_sexpr.specs.Bytes.{is_text_byte}
use Rattle.pst_sexpr.specs.Grammar.{IsWordBytes}

-- each byte may stand in a text for itself
abbrev pub ArePlain : List ℕ → Type 0
ArePlain [] = Unit {0}
ArePlain (byte ∷ bytes) = (is_text_byte byte ≡ true) × ArePlain bytes

-- the bytes begin with the span
abbrev pub IsSpanOf : List ℕ → List ℕ → Type 0
IsSpanOf bytes span = (rest : List ℕ) × (bytes ≡ span ++ rest)

-- the scanner takes the bytes one behind the other without leaving its mode
abbrev pub IsSpan : Mode → List ℕ → Type 0
IsSpan Plain span = IsWordBytes span
IsSpan Quoted span = ArePlain span
IsSpan Escaped span = span ≡ []
IsSpan Comment span = span ≡ []
