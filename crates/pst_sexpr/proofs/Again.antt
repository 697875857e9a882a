-- What is written is read again.
use Rattle.std.proofs.Common.{◌≡◌, ℕ, true, false, List, [], ◌∷◌, ◌++◌, map, refl, ap, sym, ◌∙◌, subst, append_assoc}
use Rattle.std.proofs.lemmas.List.{append-nil}
use Rattle.std.proofs.lemmas.Bool.{ne_eqb, or_from}
use Rattle.pst_sexpr.specs.declared.form.Form.{Form}
use Rattle.pst_sexpr.specs.declared.form.Form.TheVariants.{Word, Text, Node}
use Rattle.pst_sexpr.specs.Bytes.{is_blank, is_word_byte, is_text_byte, is_escaped_byte}
use Rattle.pst_sexpr.specs.Grammar.{EndsWord, Escapes, none, itself, behind, Begins, nothing, blank, comment, last_comment, word, text, node}
use Rattle.pst_sexpr.specs.Reading.{max_levels, Spells}
use Rattle.pst_sexpr.specs.Lawful.{IsTree}
use Rattle.pst_sexpr.specs.Spelling.{spelling, escape, followed, spaced}
use Rattle.pst_sexpr.proofs.Classes.{text_apart}
use Rattle.pst_sexpr.proofs.Spelled.{spelling_word, spelling_text, spelling_node}

not_escaped : (b : ℕ) → is_text_byte b ≡ true → is_escaped_byte b ≡ false
unfolding is_escaped_byte
not_escaped b h = let apart = text_apart b h in or_from _ _ (ne_eqb b 34 apart.0) (ne_eqb b 92 apart.1)

escapes_again : {spelled text : List ℕ} → Escapes spelled text → Escapes (escape text) text
escapes_again none = none
escapes_again (itself {byte = b} h more) = rw (not_escaped b h) (itself h (escapes_again more))
escapes_again (behind {byte = b} h more) = rw h (behind h (escapes_again more))

pub ends_followed : (parts : List (List ℕ)) (left : List ℕ) → EndsWord left → EndsWord (followed parts ++ left)
unfolding is_word_byte
ends_followed [] left h = h
ends_followed (part ∷ parts) left h = refl

pub ends_at_close : (left : List ℕ) → EndsWord (41 ∷ left)
unfolding is_word_byte
ends_at_close left = refl

pub blank_space : is_blank 32 ≡ true
unfolding is_blank
blank_space = refl

module _ (limit : ℕ) where
  abbrev pub Again : ℕ → List Form → List ℕ → Type 0
  Again depth trees left = Begins limit depth (spaced (map spelling trees) ++ left) trees left × Begins limit depth (followed (map spelling trees) ++ left) trees left

  both : (depth : ℕ) (tree : Form) (trees : List Form) (left bytes : List ℕ) →
      bytes ≡ (spelling tree ++ followed (map spelling trees)) ++ left → Begins limit depth bytes (tree ∷ trees) left → Again depth (tree ∷ trees) left
  both depth tree trees left bytes e h =
      let k = subst (λ l. Begins limit depth l (tree ∷ trees) left) e h in (k, blank blank_space k)

  pub again : {depth : ℕ} {bytes left : List ℕ} {trees : List Form} → Begins limit depth bytes trees left → (more : List ℕ) → EndsWord more → Again depth trees more
  again nothing more ends = (nothing, nothing)
  again (blank h begun) more ends = again begun more ends
  again (comment line h begun) more ends = again begun more ends
  again (last_comment h) more ends = (nothing, nothing)
  again (word {depth} {byte = b} {word = w} {trees} h hs e begun) more ends =
      let rest = (again begun more ends).1 in
      let tail = followed (map spelling trees) in
      both depth (Word (b ∷ w)) trees more ((b ∷ w) ++ (tail ++ more))
      (sym (append_assoc (b ∷ w) tail more) ∙ ap (λ l. (l ++ tail) ++ more) (sym (spelling_word (b ∷ w))))
      (word h hs (ends_followed (map spelling trees) more ends) rest)
  again (text {depth} {text = t} {trees} h begun) more ends =
      let rest = (again begun more ends).1 in
      let tail = followed (map spelling trees) in
      both depth (Text t) trees more (34 ∷ escape t ++ 34 ∷ (tail ++ more))
      (sym (append_assoc (34 ∷ escape t) (34 ∷ tail) more) ∙ ap (λ l. l ++ more) (sym (append_assoc (34 ∷ escape t) (34 ∷ []) tail)) ∙ ap (λ l. (l ++ tail) ++ more) (sym (spelling_text t)))
      (text (escapes_again h) rest)
  again (node {depth} {inner} {trees} h within begun) more ends =
      let rest = (again begun more ends).1 in
      let tail = followed (map spelling trees) in
      let inside = spaced (map spelling inner) in
      both depth (Node inner) trees more (40 ∷ (inside ++ 41 ∷ (tail ++ more)))
      (sym (append_assoc (40 ∷ inside) (41 ∷ tail) more) ∙ ap (λ l. l ++ more) (sym (append_assoc (40 ∷ inside) (41 ∷ []) tail)) ∙ ap (λ l. (l ++ tail) ++ more) (sym (spelling_node inner)))
      (node h (again within (41 ∷ (tail ++ more)) (ends_at_close (tail ++ more))).0 rest)

pub read_again : (tree : Form) → IsTree tree → Spells (spelling tree) (tree ∷ [])
read_again tree h =
    let all = (again max_levels h.begins [] tt).0 in
    subst (λ l. Spells l (tree ∷ [])) (append-nil (spelling tree ++ []) ∙ append-nil (spelling tree)) all
