-- Values in trees with one more level of room.
use Rattle.std.proofs.Common.{◌≡◌, ◌≢◌, ℕ, zero, suc, ◌-◌, Bool, Some, None, List, refl, ap, ◌∙◌, arith}
use Rattle.pst_runs.specs.Values.{value_in, value_at, word_value, node_value}
use Rattle.pst_runs.specs.declared.values.Spelling.{Spelling}
use Rattle.pst_sexpr.specs.declared.form.Form.{Form, out-Form}
use Rattle.pst_sexpr.specs.declared.form.Form as form
use Rattle.pst_sexpr.specs.declared.form.Form.TheVariants as at
use Rattle.pst_value.specs.declared.value.Value as value

pub value_none : (spelling : Spelling) (f : Form) → value_in spelling 0 f ≡ None
unfolding value_in
value_none spelling f = refl

inside : (spelling : Spelling) (room : ℕ) (f : Form) → room ≢ 0 → value_in spelling room f ≡ value_at spelling (value_in spelling (room - 1)) (out-Form f)
unfolding value_in
inside spelling zero f ne = absurd (ne refl)
inside spelling (suc n) f ne = ap (λ k. value_at spelling (value_in spelling k) (out-Form f)) (let e : n ≡ suc n - 1 = omega arith in e)

pub value_word : (spelling : Spelling) (room : ℕ) (w : List ℕ) → room ≢ 0 → value_in spelling room (form.Word w) ≡ word_value spelling.symbolic w
value_word spelling room w ne = inside spelling room (form.Word w) ne ∙ ap (value_at spelling (value_in spelling (room - 1))) (at.outs-Word w)

pub value_text : (spelling : Spelling) (room : ℕ) (t : List ℕ) → room ≢ 0 → value_in spelling room (form.Text t) ≡ Some (value.Text t)
value_text spelling room t ne = inside spelling room (form.Text t) ne ∙ ap (value_at spelling (value_in spelling (room - 1))) (at.outs-Text t)

pub value_node : (spelling : Spelling) (room : ℕ) (fs : List Form) → room ≢ 0 → value_in spelling room (form.Node fs) ≡ node_value spelling (value_in spelling (room - 1)) fs
value_node spelling room fs ne = inside spelling room (form.Node fs) ne ∙ ap (value_at spelling (value_in spelling (room - 1))) (at.outs-Node fs)

pub ruleset rooms = (value_none, value_word, value_text, value_node)
