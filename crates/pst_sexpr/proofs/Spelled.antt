-- What is written is spelled so.
use Rattle.std.proofs.Common.{◌≡◌, ℕ, zero, suc, ◌+◌, ◌<◌, length, get_or, drop, drop-cons, add-one, List, [], ◌∷◌, ◌++◌, map, refl, ap, sym, ◌∙◌}
use Rattle.pst_sexpr.specs.declared.form.Form.{Form, fold-roll-Form}
use Rattle.pst_sexpr.specs.declared.form.Form.TheVariants.{Word, Text, Node, rolls-Word, rolls-Text, rolls-Node}
use Rattle.pst_sexpr.specs.declared.form.Form.TheOpen.{Form-F}
use Rattle.pst_sexpr.specs.Spelling.{spelling, escape, escaped, gap, followed, spaced, spell}

pub spelling_word : (w : List ℕ) → spelling (Word w) ≡ w
unfolding spelling
spelling_word w = ap spelling (sym (rolls-Word w)) ∙ fold-roll-Form (List ℕ) spell (Form-F.Word w)

pub spelling_text : (t : List ℕ) → spelling (Text t) ≡ 34 ∷ escape t ++ 34 ∷ []
unfolding spelling
spelling_text t = ap spelling (sym (rolls-Text t)) ∙ fold-roll-Form (List ℕ) spell (Form-F.Text t)

pub spelling_node : (kids : List Form) → spelling (Node kids) ≡ 40 ∷ spaced (map spelling kids) ++ 41 ∷ []
unfolding spelling
spelling_node kids = ap spelling (sym (rolls-Node kids)) ∙ fold-roll-Form (List ℕ) spell (Form-F.Node kids)

-- what is left of a list with spaces, once so many are written
abbrev pub left_of : ℕ → List (List ℕ) → List ℕ
left_of zero parts = spaced parts
left_of (suc n) parts = followed parts

left_at : (n : ℕ) (part : List ℕ) (parts : List (List ℕ)) → left_of n (part ∷ parts) ≡ gap n ++ (part ++ left_of (suc n) parts)
left_at zero part parts = refl
left_at (suc n) part parts = refl

-- the next part of a node
pub next_part : (forms : List Form) (i : ℕ) (x : Form) → i < length forms → x ≡ get_or forms i x →
    left_of i (map spelling (drop i forms)) ≡ gap i ++ (spelling x ++ left_of (i + 1) (map spelling (drop (i + 1) forms)))
next_part forms i x h is =
    let front : drop i forms ≡ x ∷ drop (suc i) forms = drop-cons forms i x h ∙ ap (λ y. y ∷ drop (suc i) forms) (sym is) in
    let first = ap (λ l. left_of i (map spelling l)) front ∙ left_at i (spelling x) (map spelling (drop (suc i) forms)) in
    rw add-one first

-- the next byte of a text
pub escape_at : (bytes : List ℕ) (i : ℕ) → i < length bytes → escape (drop i bytes) ≡ escaped (get_or bytes i 0) ++ escape (drop (i + 1) bytes)
escape_at bytes i h = rw (add-one, drop-cons bytes i 0) refl
