-- Trees that are made, and not read.
use Rattle.std.proofs.Common.{◌≡◌, ℕ, suc, ◌+◌, ◌<◌, ◌≤◌, length, List, [], ◌∷◌, ◌++◌, map, ap, sym, ◌∙◌, subst, append_assoc, arith, ⊎_elim}
use Rattle.std.proofs.lemmas.List.{append-nil}
use Rattle.pst_sexpr.specs.declared.form.Form.{Form, fold-roll-Form}
use Rattle.pst_sexpr.specs.declared.form.Form.TheVariants.{Word, Text, Node, rolls-Word, rolls-Text, rolls-Node}
use Rattle.pst_sexpr.specs.declared.form.Form.TheOpen.{Form-F}
use Rattle.pst_sexpr.specs.Grammar.{IsWordBytes, EndsWord, Escapes, none, itself, behind, Begins, nothing, blank, comment, last_comment, word, text, node}
use Rattle.pst_sexpr.specs.Reading.{max_levels}
use Rattle.pst_sexpr.specs.Lawful.{IsTree, AreTrees, IsTextBytes, greatest, levels, layer_levels}
use Rattle.pst_sexpr.specs.Spelling.{spelling, followed}
use Rattle.pst_sexpr.proofs.Sound.{join}
use Rattle.pst_sexpr.proofs.Again.{again, ends_followed, ends_at_close}

-- how many levels each form has
pub levels_word : (bytes : List ℕ) → levels (Word bytes) ≡ 0
unfolding levels
levels_word bytes = ap levels (sym (rolls-Word bytes)) ∙ fold-roll-Form ℕ layer_levels (Form-F.Word bytes)

pub levels_text : (bytes : List ℕ) → levels (Text bytes) ≡ 0
unfolding levels
levels_text bytes = ap levels (sym (rolls-Text bytes)) ∙ fold-roll-Form ℕ layer_levels (Form-F.Text bytes)

pub levels_node : (kids : List Form) → levels (Node kids) ≡ suc (greatest (map levels kids))
unfolding levels
levels_node kids = ap levels (sym (rolls-Node kids)) ∙ fold-roll-Form ℕ layer_levels (Form-F.Node kids)

-- trees of fewer levels may stand deeper
fits : {limit depth : ℕ} {bytes left : List ℕ} {trees : List Form} → Begins limit depth bytes trees left → (other at : ℕ) → greatest (map levels trees) + at ≤ other → Begins other at bytes trees left
fits nothing other at n = nothing
fits (blank h more) other at n = blank h (fits more other at n)
fits (comment line h more) other at n = comment line h (fits more other at n)
fits (last_comment h) other at n = last_comment h
fits (word {byte = b} {word = w} {trees} h hs e more) other at n = word h hs e (fits more other at (omega arith))
fits (text {text = t} {trees} h more) other at n = text h (fits more other at (omega arith))
fits (node {inner} {trees} h within more) other at n =
    let e = levels_node inner in
    node (omega arith) (fits within other (suc at) (omega arith)) (fits more other at (omega arith))

-- so many trees, each with a spelling, one after another
module _ (limit depth : ℕ) where
  row : (trees : List Form) → AreTrees trees → greatest (map levels trees) + depth ≤ limit → (left : List ℕ) → EndsWord left → Begins limit depth (followed (map spelling trees) ++ left) trees left
  row [] h n left ends = nothing
  row (tree ∷ trees) h n left ends =
      let one : greatest (map levels (tree ∷ [])) + depth ≤ limit = omega arith in
      let rest = row trees h.1 (omega arith) left ends in
      let after = followed (map spelling trees) ++ left in
      let first = (again limit (fits h.0.begins limit depth one) after (ends_followed (map spelling trees) left ends)).1 in
      let e : followed (map spelling (tree ∷ [])) ++ after ≡ followed (map spelling (tree ∷ trees)) ++ left =
      ap (λ l. (32 ∷ l) ++ after) (append-nil (spelling tree)) ∙ sym (append_assoc (32 ∷ spelling tree) (followed (map spelling trees)) left) in
      subst (λ l. Begins limit depth l (tree ∷ trees) left) e (join first rest)

pub node_is_tree : (trees : List Form) → AreTrees trees → greatest (map levels trees) < max_levels → IsTree (Node trees)
node_is_tree trees h n =
    record {
      bytes = 40 ∷ (followed (map spelling trees) ++ 41 ∷ []);
      left = [];
      begins = node (omega arith) (row max_levels 1 trees h (omega arith) (41 ∷ []) (ends_at_close [])) nothing;
    }

pub word_is_tree : (bytes : List ℕ) → 0 < length bytes → IsWordBytes bytes → IsTree (Word bytes)
word_is_tree [] n h = absurd (omega arith)
word_is_tree (b ∷ bytes) n h = record { bytes = b ∷ bytes ++ []; left = []; begins = word h.0 h.1 tt nothing }

escapes_of : (bytes : List ℕ) → IsTextBytes bytes → (spelled : List ℕ) × Escapes spelled bytes
escapes_of [] h = ([], none)
escapes_of (b ∷ bytes) h =
    let more = escapes_of bytes h.1 in
    ⊎_elim (λ e. (b ∷ more.0, itself e more.1)) (λ e. (92 ∷ b ∷ more.0, behind e more.1)) h.0

pub text_is_tree : (bytes : List ℕ) → IsTextBytes bytes → IsTree (Text bytes)
text_is_tree bytes h =
    let e = escapes_of bytes h in
    record { bytes = 34 ∷ e.0 ++ 34 ∷ []; left = []; begins = text e.1 nothing }

-- for the crates above, which make trees
pub ruleset level_equations = (levels_word, levels_text, levels_node)
