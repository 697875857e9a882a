-- The grammar of files of trees, by cases.
use Rattle.std.specs.Prelude.{◌≡◌, ℕ, suc, ◌<◌, true, false, List, [], ◌∷◌, ◌++◌}
use Rattle.pst_sexpr.specs.declared.form.Form.{Form}
use Rattle.pst_sexpr.specs.declared.form.Form.TheVariants.{Word, Text, Node}
use Rattle.pst_sexpr.specs.Bytes.{is_blank, is_word_byte, is_text_byte, is_escaped_byte}

-- each byte may stand in a word
abbrev pub IsWordBytes : List ℕ → Type 0
IsWordBytes [] = Unit {0}
IsWordBytes (byte ∷ bytes) = (is_word_byte byte ≡ true) × IsWordBytes bytes

-- a word ends here: no byte of a word follows
abbrev pub EndsWord : List ℕ → Type 0
EndsWord [] = Unit {0}
EndsWord (byte ∷ bytes) = is_word_byte byte ≡ false

-- no line end among the bytes
abbrev pub IsLine : List ℕ → Type 0
IsLine [] = Unit {0}
IsLine (byte ∷ bytes) = (byte ≡ 10 → ⊥) × IsLine bytes

-- How the bytes of a text are spelled between its quotes.
pub data Escapes : List ℕ → List ℕ → Type 0 where
  -- the text is empty, and so is what spells it
  none : Escapes [] []
  -- a byte that stands for itself
  itself : {byte : ℕ} {spelled text : List ℕ} → is_text_byte byte ≡ true → Escapes spelled text →
      Escapes (byte ∷ spelled) (byte ∷ text)
  -- " or \, behind a \
  behind : {byte : ℕ} {spelled text : List ℕ} → is_escaped_byte byte ≡ true → Escapes spelled text →
      Escapes (92 ∷ byte ∷ spelled) (byte ∷ text)

-- The bytes begin with a spelling of the trees, which stand in so many nodes, and with these bytes left over.
-- A node stands in fewer nodes than the limit.
pub data Begins (limit : ℕ) : ℕ → List ℕ → List Form → List ℕ → Type 0 where
  -- no trees, and all bytes are left over
  nothing : {depth : ℕ} {left : List ℕ} → Begins limit depth left [] left
  -- white space, and then trees
  blank : {depth byte : ℕ} {bytes left : List ℕ} {trees : List Form} →
      is_blank byte ≡ true → Begins limit depth bytes trees left →
      Begins limit depth (byte ∷ bytes) trees left
  -- a comment, from ; to the line end, and then trees
  comment : {depth : ℕ} (line : List ℕ) {bytes left : List ℕ} {trees : List Form} →
      IsLine line → Begins limit depth bytes trees left →
      Begins limit depth (59 ∷ line ++ 10 ∷ bytes) trees left
  -- a comment that goes to the end of the bytes
  last_comment : {depth : ℕ} {line : List ℕ} → IsLine line → Begins limit depth (59 ∷ line) [] []
  -- a word, where no byte of a word follows, and then trees
  word : {depth byte : ℕ} {word bytes left : List ℕ} {trees : List Form} →
      is_word_byte byte ≡ true → IsWordBytes word → EndsWord bytes → Begins limit depth bytes trees left →
      Begins limit depth (byte ∷ word ++ bytes) (Word (byte ∷ word) ∷ trees) left
  -- a text between quotes, and then trees
  text : {depth : ℕ} {spelled text bytes left : List ℕ} {trees : List Form} →
      Escapes spelled text → Begins limit depth bytes trees left →
      Begins limit depth (34 ∷ spelled ++ 34 ∷ bytes) (Text text ∷ trees) left
  -- a node: (, trees, ), and then trees
  node : {depth : ℕ} {inside bytes left : List ℕ} {inner trees : List Form} →
      depth < limit → Begins limit (suc depth) inside inner (41 ∷ bytes) →
      Begins limit depth bytes trees left →
      Begins limit depth (40 ∷ inside) (Node inner ∷ trees) left
