-- A form that has a spelling passes the test.
use Rattle.std.proofs.Common.{◌≡◌, ℕ, zero, suc, ◌+◌, true, List, [], ◌∷◌, refl, ◌∙◌, ap, arith}
use Rattle.std.specs.List.{list_all}
use Rattle.std.specs.Prelude.{if◌then◌else◌}
use Rattle.std.proofs.lemmas.Bool.Decides.{nat_tests}
use Rattle.pst_json_runs.proofs.Levels.{spelled-word, spelled-text, spelled-some}
use Rattle.pst_json_runs.specs.Spelled.{spelled_in, has_spelling, if_spelled}
use Rattle.pst_sexpr.proofs.Numbers.{both_hold, both_from}
use Rattle.pst_sexpr.specs.Bytes.{is_word_byte, is_text_byte, is_escaped_byte}
use Rattle.pst_sexpr.specs.Grammar.{IsWordBytes, Escapes, none, itself, behind, Begins, nothing, blank, comment, last_comment, word, text, node}
use Rattle.pst_sexpr.specs.Lawful.{IsTree}
use Rattle.pst_sexpr.specs.Reading.{max_levels}
use Rattle.pst_sexpr.specs.declared.form.Form.{Form}
use Rattle.pst_sexpr.specs.declared.form.Form.TheVariants.{Word, Text, Node}
use Rattle.pst_value.specs.Text.{is_printable}

text_printable : (b : ℕ) → is_text_byte b ≡ true → is_printable b ≡ true
unfolding is_text_byte
text_printable b h = grind (arith, nat_tests)

escaped_printable : (b : ℕ) → is_escaped_byte b ≡ true → is_printable b ≡ true
unfolding is_escaped_byte
escaped_printable b h = grind (arith, nat_tests)

printable : {spelled bytes : List ℕ} → Escapes spelled bytes → list_all is_printable bytes ≡ true
printable none = refl
printable (itself {byte = b} {text = t} h more) = both_from (is_printable b) (list_all is_printable t) (text_printable b h) (printable more)
printable (behind {byte = b} {text = t} h more) = both_from (is_printable b) (list_all is_printable t) (escaped_printable b h) (printable more)

word_test : (bytes : List ℕ) → IsWordBytes bytes → list_all is_word_byte bytes ≡ true
word_test [] h = refl
word_test (b ∷ bytes) h = both_from (is_word_byte b) (list_all is_word_byte bytes) h.0 (word_test bytes h.1)

begun : {limit depth : ℕ} {bytes left : List ℕ} {trees : List Form} → Begins limit depth bytes trees left → (room : ℕ) → room + depth ≡ limit → list_all (spelled_in room) trees ≡ true
begun nothing room e = refl
begun (blank h more) room e = begun more room e
begun (comment line h more) room e = begun more room e
begun (last_comment h) room e = refl
begun (word {byte = b} {word = w} {trees} h hs ends more) room e =
    both_from (spelled_in room (Word (b ∷ w))) (list_all (spelled_in room) trees)
    (spelled-word room (b ∷ w) ∙ both_from (is_word_byte b) (list_all is_word_byte w) h (word_test w hs)) (begun more room e)
begun (text {text = t} {trees} h more) room e =
    both_from (spelled_in room (Text t)) (list_all (spelled_in room) trees) (spelled-text room t ∙ printable h) (begun more room e)
begun (node h within more) zero e = absurd (omega arith)
begun (node {inner} {trees} h within more) (suc room) e =
    both_from (spelled_in (suc room) (Node inner)) (list_all (spelled_in (suc room)) trees) (spelled-some room inner ∙ begun within room (omega arith)) (begun more (suc room) e)

pub tree_is_spelled : (form : Form) → IsTree form → has_spelling form ≡ true
tree_is_spelled form t = (both_hold (spelled_in max_levels form) true (begun t.begins max_levels (omega arith))).0

pub if_spelled_is : (form other : Form) → IsTree form → if_spelled form other ≡ form
if_spelled_is form other t = ap (λ b. if b then form else other) (tree_is_spelled form t)
