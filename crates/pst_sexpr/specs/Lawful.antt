-- Which trees have a spelling.
use Rattle.std.specs.Prelude.{◌≡◌, ℕ, suc, max, true, ◌⊎◌, List, [], ◌∷◌}
use Rattle.pst_sexpr.specs.declared.form.Form.{Form, fold-Form}
use Rattle.pst_sexpr.specs.declared.form.Form.TheOpen.{Form-F}
use Rattle.pst_sexpr.specs.Bytes.{is_text_byte, is_escaped_byte}
use Rattle.pst_sexpr.specs.Grammar.{Begins}
use Rattle.pst_sexpr.specs.Reading.{max_levels}

-- some bytes begin with a spelling of the tree, of at most as many levels as a file
pub record IsTree (form : Form) : Type 0 where
  pub bytes : List ℕ
  pub left : List ℕ
  pub begins : Begins max_levels 0 bytes (form ∷ []) left

-- so is each of the trees
abbrev pub AreTrees : List Form → Type 0
AreTrees [] = Unit {0}
AreTrees (form ∷ forms) = IsTree form × AreTrees forms

-- the most of some numbers
abbrev pub greatest : List ℕ → ℕ
greatest [] = 0
greatest (number ∷ numbers) = max number (greatest numbers)

-- the levels of a form, by those of its parts
abbrev pub layer_levels : Form-F ℕ → ℕ
layer_levels (Form-F.Word bytes) = 0
layer_levels (Form-F.Text bytes) = 0
layer_levels (Form-F.Node parts) = suc (greatest parts)

-- how many nodes stand in one another in a tree
unfoldable pub levels : Form → ℕ
levels = fold-Form ℕ layer_levels

-- each byte may stand in a text, for itself or escaped
abbrev pub IsTextBytes : List ℕ → Type 0
IsTextBytes [] = Unit {0}
IsTextBytes (byte ∷ bytes) = ((is_text_byte byte ≡ true) ⊎ (is_escaped_byte byte ≡ true)) × IsTextBytes bytes
