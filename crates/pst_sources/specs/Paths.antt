-- The trees that paths lead to, and the bytes of spans.
use Rattle.std.specs.Prelude.{◌≡◌, ℕ, ◌≤◌, Bool, true, ◌||◌, ◌==◌, List, [], ◌∷◌, length, Option, Some}
use Rattle.std.specs.Prelude.{None, slice_get, slice_range}
use Rattle.pst_sexpr.specs.declared.form.Form.{Form}
use Rattle.pst_sexpr.specs.Bytes.{is_word_byte}
use Rattle.pst_sexpr.specs.Parts.{and_then, tree_in}
use Rattle.pst_sexpr.specs.Reading.{Spells}
use Rattle.pst_sources.specs.declared.scan.Span.{Span}

-- the tree at a path in some trees: the number of one of them, from 0, and then a path in it
abbrev pub tree_at : List ℕ → List Form → Option Form
tree_at [] trees = None
tree_at (number ∷ path) trees = and_then (slice_get trees number) (tree_in path)

-- the bytes of a span
abbrev pub bytes_of : List ℕ → Span → List ℕ
bytes_of input span = slice_range input span.start span.end

-- the span begins no later than it ends, and ends within the input
pub record IsWithin (input : List ℕ) (span : Span) : Type 0 where
  pub in_order : span.start ≤ span.end
  pub in_input : span.end ≤ length input

-- a tree begins with this byte: with `(`, with `"`, or with a byte of a word
unfoldable pub begins_tree : ℕ → Bool
begins_tree byte = byte == 40 || byte == 34 || is_word_byte byte

-- a tree begins with the first byte: no white space and no comment stands before it
abbrev pub BeginsTree : List ℕ → Type 0
BeginsTree [] = ⊥
BeginsTree (byte ∷ bytes) = begins_tree byte ≡ true

-- the bytes of the span spell the tree, from the first byte on
pub record HasTree (input : List ℕ) (span : Span) (tree : Form) : Type 0 where
  pub within : IsWithin input span
  pub spells : Spells (bytes_of input span) (tree ∷ [])
  pub begins : BeginsTree (bytes_of input span)
