-- How many trees stand in each form of tree.
use Rattle.std.proofs.Common.{◌≡◌, ℕ, suc, List, map, None, refl, sym, ap, ◌∙◌, arith}
use Rattle.std.specs.List.{sum}
use Rattle.std.proofs.lemmas.Bool.Decides.{nat_tests}
use Rattle.pst_sexpr.specs.declared.form.Form.{Form, Form-F, fold-roll-Form}
use Rattle.pst_sexpr.specs.declared.form.Form as form
use Rattle.pst_sexpr.specs.declared.form.Form.TheVariants.{rolls-Word, rolls-Text, rolls-Node}
use Rattle.pst_syntax.specs.Counting.{trees_in, layer_trees, spent}

layers : (d : Form-F Form) → trees_in (form.roll-Form d) ≡ layer_trees (form.map-Form Form ℕ trees_in d)
unfolding trees_in
layers d = fold-roll-Form ℕ layer_trees d

pub trees_in_word : (w : List ℕ) → trees_in (form.Word w) ≡ 1
trees_in_word w = ap trees_in (sym (rolls-Word w)) ∙ layers (Form-F.Word w)

pub trees_in_text : (w : List ℕ) → trees_in (form.Text w) ≡ 1
trees_in_text w = ap trees_in (sym (rolls-Text w)) ∙ layers (Form-F.Text w)

pub trees_in_node : (parts : List Form) → trees_in (form.Node parts) ≡ suc (sum (map trees_in parts))
trees_in_node parts = ap trees_in (sym (rolls-Node parts)) ∙ layers (Form-F.Node parts)

nothing : (n : ℕ) → spent (suc n) 0 ≡ None
nothing n = grind (arith, nat_tests)

none_left : (d : Form-F ℕ) → spent (layer_trees d) 0 ≡ None
none_left (Form-F.Word bytes) = refl
none_left (Form-F.Text bytes) = refl
none_left (Form-F.Node parts) = nothing (sum parts)

-- a tree needs some room
pub no_room : (tree : Form) → spent (trees_in tree) 0 ≡ None
no_room tree = ap (λ t. spent (trees_in t) 0) (sym (form.roll-out-Form tree)) ∙ ap (λ n. spent n 0) (layers (form.out-Form tree)) ∙ none_left (form.map-Form Form ℕ trees_in (form.out-Form tree))

pub ruleset counted = (no_room, trees_in_word, trees_in_text, trees_in_node)
