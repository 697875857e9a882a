-- The text of trees that the bytes of an input mean.
use Rattle.std.specs.Prelude.{◌≡◌, ◌<◌, ◌≤◌, ℕ, true, false, List, length, take, Option, Some, None}
use Rattle.pst_input.specs.Lines.{blanked, has_first_tree, json_start}
use Rattle.pst_json_runs.specs.Lines.{trees_text}
use Rattle.pst_model.specs.declared.model.Source.{Source}
use Rattle.pst_sexpr.specs.Reading.{max_bytes, IsFault}
use Rattle.pst_sexpr.specs.declared.form.Form.{Form}
use Rattle.pst_sexpr.specs.declared.reader.SexprFault.{SexprFault}
use Rattle.pst_typing.specs.Loading.{Holds, IsFile, IsRefusal}
use Rattle.pst_typing.specs.declared.loading.Refusal.{Refusal}

-- Items as JSON begin at the place: it is that of the first line that begins with `{`, and the first tree ends before it. The
-- input is not too large for a file.
pub record HasJson (input : List ℕ) (at : ℕ) : Type 0 where
  pub start : json_start input ≡ Some at
  pub first : has_first_tree (take at input) ≡ true
  pub small : length input ≤ max_bytes

-- The input means the plain text. The cases exclude one another, or agree.
pub data Means (input plain : List ℕ) : Type 0 where
  -- no line begins with `{`: the input means itself
  trees : json_start input ≡ None → plain ≡ input → Means input plain
  -- the first tree is to come when a line begins with `{`: that line is none of JSON, and the input means itself
  begun : (at : ℕ) → json_start input ≡ Some at → has_first_tree (take at input) ≡ false → plain ≡ input → Means input plain
  -- the input is too large
  large : (at : ℕ) → json_start input ≡ Some at → max_bytes < length input → plain ≡ input → Means input plain
  -- no well-typed model is before the items as JSON: what is before them is refused
  no_model : (at : ℕ) (refusal : Refusal) → HasJson input at → IsRefusal (take at input) refusal → plain ≡ take at input
      → Means input plain
  -- what is around the items as JSON is no text of trees: it is refused, at its place in the input
  unread : (at : ℕ) (m : Source) (before : List Form) (fault : SexprFault) → HasJson input at → Holds (take at input) m before
      → IsFault (blanked input) fault → plain ≡ blanked input → Means input plain
  -- each item as JSON means the tree of its line
  items : (at : ℕ) (m : Source) (before around : List Form) → HasJson input at → Holds (take at input) m before
      → IsFile (blanked input) around → plain ≡ trees_text m input → Means input plain

-- a fact holds of the text that the input means
abbrev pub HoldsOfMeaning : (List ℕ → Type 0) → List ℕ → Type 0
HoldsOfMeaning P input = (plain : List ℕ) × Means input plain × P plain
