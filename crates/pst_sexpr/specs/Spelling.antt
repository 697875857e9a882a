-- What is written of a tree.
use Rattle.std.specs.Prelude.{ℕ, zero, suc, if◌then◌else◌, List, [], ◌∷◌, ◌++◌}
use Rattle.pst_sexpr.specs.declared.form.Form.{Form, fold-Form}
use Rattle.pst_sexpr.specs.declared.form.Form.TheOpen.{Form-F}
use Rattle.pst_sexpr.specs.Bytes.{is_escaped_byte}

-- a byte of a text, as it is spelled
abbrev pub escaped : ℕ → List ℕ
escaped byte = if is_escaped_byte byte then 92 ∷ byte ∷ [] else byte ∷ []

-- what stands between the quotes
abbrev pub escape : List ℕ → List ℕ
escape [] = []
escape (byte ∷ bytes) = escaped byte ++ escape bytes

-- what stands before a part of a node, by the number of parts before it
abbrev pub gap : ℕ → List ℕ
gap zero = []
gap (suc count) = 32 ∷ []

-- parts, each behind a space
abbrev pub followed : List (List ℕ) → List ℕ
followed [] = []
followed (part ∷ parts) = 32 ∷ part ++ followed parts

-- parts with one space between
abbrev pub spaced : List (List ℕ) → List ℕ
spaced [] = []
spaced (part ∷ parts) = part ++ followed parts

-- the spelling of a form, by those of its parts
abbrev pub spell : Form-F (List ℕ) → List ℕ
spell (Form-F.Word bytes) = bytes
spell (Form-F.Text bytes) = 34 ∷ escape bytes ++ 34 ∷ []
spell (Form-F.Node parts) = 40 ∷ spaced parts ++ 41 ∷ []

-- the one spelling of a tree that is written
unfoldable pub spelling : Form → List ℕ
spelling = fold-Form (List ℕ) spell
