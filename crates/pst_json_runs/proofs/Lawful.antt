-- Forms that pass the test have a spelling.
use Rattle.std.proofs.Common.{◌≡◌, ℕ, zero, suc, ◌≤◌, Bool, true, false, List, [], ◌∷◌, sym, ◌∙◌, subst, refl, arith}
use Rattle.std.specs.Prelude.{if◌then◌else◌}
use Rattle.std.specs.List.{list_all}
use Rattle.pst_json_runs.proofs.Levels.{spelled-word, spelled-text, spelled-none, spelled-some}
use Rattle.pst_json_runs.specs.Spelled.{is_word, spelled_in, has_spelling, if_spelled}
use Rattle.pst_runs.proofs.Sized.{Sized, AllSized, none_sized, more_sized, text_sized, letters_sized}
use Rattle.pst_runs.proofs.Texts.{text_bytes}
use Rattle.pst_sexpr.proofs.Made.{levels_node, node_is_tree}
use Rattle.pst_sexpr.proofs.Numbers.{both_hold}
use Rattle.pst_sexpr.specs.Lawful.{IsTree}
use Rattle.pst_sexpr.specs.Reading.{max_levels}
use Rattle.pst_sexpr.specs.declared.form.Form.{Form, out-Form, roll-Form, roll-out-Form}
use Rattle.pst_sexpr.specs.declared.form.Form.TheOpen.{Form-F}
use Rattle.pst_sexpr.specs.declared.form.Form.TheVariants.{Word, Node, rolls-Word, rolls-Text, rolls-Node}

a_word : (room : ℕ) (bytes : List ℕ) → is_word bytes ≡ true → Sized room (Word bytes)
a_word room [] e = absurd (cc)
a_word room (b ∷ bytes) e =
    letters_sized room b bytes e

node_sized : (room : ℕ) (forms : List Form) → suc room ≤ 100 → AllSized room forms → Sized (suc room) (Node forms)
node_sized room forms h all =
    let l = all.level in
    let e = levels_node forms in
    record { lawful = node_is_tree forms all.lawful (omega arith); level = omega arith }

abbrev Each : ℕ → Type 0
Each room = (form : Form) → spelled_in room form ≡ true → Sized room form

all_sized : (room : ℕ) → Each room → (forms : List Form) → list_all (spelled_in room) forms ≡ true → AllSized room forms
all_sized room each [] e = none_sized room
all_sized room each (form ∷ forms) e =
    let p = both_hold (spelled_in room form) (list_all (spelled_in room) forms) e in
    more_sized (each form p.0) (all_sized room each forms p.1)

sized_leaf : (x : Form-F Form) → spelled_in 0 (roll-Form x) ≡ true → Sized 0 (roll-Form x)
sized_leaf (Form-F.Word bytes) e =
    subst (Sized 0) (sym (rolls-Word bytes)) (a_word 0 bytes (sym (spelled-word 0 bytes) ∙ subst (λ f. spelled_in 0 f ≡ true) (rolls-Word bytes) e))
sized_leaf (Form-F.Text bytes) e =
    subst (Sized 0) (sym (rolls-Text bytes)) (text_sized 0 bytes (text_bytes bytes (sym (spelled-text 0 bytes) ∙ subst (λ f. spelled_in 0 f ≡ true) (rolls-Text bytes) e)))
sized_leaf (Form-F.Node parts) e =
    let none = spelled-none 0 parts refl in
    let all : spelled_in 0 (Node parts) ≡ true = subst (λ f. spelled_in 0 f ≡ true) (rolls-Node parts) e in
    absurd (cc)

sized_level : (room : ℕ) → suc room ≤ 100 → Each room → (x : Form-F Form) → spelled_in (suc room) (roll-Form x) ≡ true → Sized (suc room) (roll-Form x)
sized_level room h each (Form-F.Word bytes) e =
    subst (Sized (suc room)) (sym (rolls-Word bytes)) (a_word (suc room) bytes (sym (spelled-word (suc room) bytes) ∙ subst (λ f. spelled_in (suc room) f ≡ true) (rolls-Word bytes) e))
sized_level room h each (Form-F.Text bytes) e =
    subst (Sized (suc room)) (sym (rolls-Text bytes)) (text_sized (suc room) bytes (text_bytes bytes (sym (spelled-text (suc room) bytes) ∙ subst (λ f. spelled_in (suc room) f ≡ true) (rolls-Text bytes) e)))
sized_level room h each (Form-F.Node parts) e =
    subst (Sized (suc room)) (sym (rolls-Node parts)) (node_sized room parts h (all_sized room each parts (sym (spelled-some room parts) ∙ subst (λ f. spelled_in (suc room) f ≡ true) (rolls-Node parts) e)))

sized_in : (room : ℕ) → room ≤ 100 → Each room
sized_in zero h form e =
    subst (Sized 0) (roll-out-Form form) (sized_leaf (out-Form form) (subst (λ f. spelled_in 0 f ≡ true) (sym (roll-out-Form form)) e))
sized_in (suc room) h form e =
    subst (Sized (suc room)) (roll-out-Form form) (sized_level room h (sized_in room (omega arith)) (out-Form form) (subst (λ f. spelled_in (suc room) f ≡ true) (sym (roll-out-Form form)) e))

-- a form that passes the test has a spelling
pub spelled_is_tree : (form : Form) → has_spelling form ≡ true → IsTree form
spelled_is_tree form e = (sized_in max_levels (omega arith) form e).lawful

pub nothing_is_tree : IsTree (Node [])
nothing_is_tree = node_is_tree [] tt (omega arith)

or_nothing : (b : Bool) (form : Form) → (b ≡ true → IsTree form) → IsTree (if b then form else Node [])
or_nothing true form h = h refl
or_nothing false form h = nothing_is_tree

pub kept_is_tree : (form : Form) → IsTree (if_spelled form (Node []))
kept_is_tree form = or_nothing (has_spelling form) form (spelled_is_tree form)
