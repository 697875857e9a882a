-- Which forms have a spelling, as a test.
use Rattle.std.specs.Prelude.{ℕ, zero, suc, Bool, false, if◌then◌else◌, List, [], ◌∷◌}
use Rattle.std.specs.List.{list_all}
use Rattle.pst_sexpr.specs.Bytes.{is_word_byte}
use Rattle.pst_sexpr.specs.Reading.{max_levels}
use Rattle.pst_sexpr.specs.declared.form.Form.{Form, out-Form}
use Rattle.pst_sexpr.specs.declared.form.Form.TheOpen.{Form-F}
use Rattle.pst_value.specs.Text.{is_printable}

-- one byte or more, each of which may stand in a word
abbrev pub is_word : List ℕ → Bool
is_word [] = false
is_word (byte ∷ bytes) = list_all is_word_byte (byte ∷ bytes)

-- a form without nodes
abbrev pub leaf_at : Form-F Form → Bool
leaf_at (Form-F.Word bytes) = is_word bytes
leaf_at (Form-F.Text bytes) = list_all is_printable bytes
leaf_at (Form-F.Node parts) = false

abbrev pub spelled_at : (Form → Bool) → Form-F Form → Bool
spelled_at part (Form-F.Word bytes) = is_word bytes
spelled_at part (Form-F.Text bytes) = list_all is_printable bytes
spelled_at part (Form-F.Node parts) = list_all part parts

-- whether the form has a spelling of at most so many levels
unfoldable pub spelled_in : ℕ → Form → Bool
spelled_in zero form = leaf_at (out-Form form)
spelled_in (suc room) form = spelled_at (spelled_in room) (out-Form form)

-- whether the form has a spelling
abbrev pub has_spelling : Form → Bool
has_spelling form = spelled_in max_levels form

-- the form, or another one if it has no spelling
abbrev pub if_spelled : Form → Form → Form
if_spelled form other = if has_spelling form then form else other
