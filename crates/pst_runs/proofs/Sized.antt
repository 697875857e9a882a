-- Trees that have a spelling, of at most so many levels.
use Rattle.std.proofs.Common.{◌≡◌, ℕ, suc, ◌<◌, ◌≤◌, ◌&&◌, Bool, true, false, List, [], ◌∷◌, ◌++◌, map, refl, arith}
use Rattle.std.specs.List.{list_all}
use Rattle.pst_sexpr.proofs.Made.{levels_word, levels_text, levels_node, word_is_tree, text_is_tree, node_is_tree}
use Rattle.pst_sexpr.specs.Bytes.{is_word_byte}
use Rattle.pst_sexpr.specs.Grammar.{IsWordBytes}
use Rattle.pst_sexpr.specs.Lawful.{IsTree, AreTrees, IsTextBytes, greatest, levels}
use Rattle.pst_sexpr.specs.declared.form.Form.TheVariants.{Word, Text, Node}
use Rattle.pst_sexpr.specs.declared.form.Form.{Form}

pub record Sized (depth : ℕ) (form : Form) : Type 0 where
  pub lawful : IsTree form
  pub level : levels form ≤ depth

pub record AllSized (depth : ℕ) (forms : List Form) : Type 0 where
  pub lawful : AreTrees forms
  pub level : greatest (map levels forms) ≤ depth

pub wider : {depth : ℕ} {form : Form} (more : ℕ) → Sized depth form → depth ≤ more → Sized more form
wider more s h = let l = s.level in record { lawful = s.lawful; level = omega arith }

pub all_wider : {depth : ℕ} {forms : List Form} (more : ℕ) → AllSized depth forms → depth ≤ more → AllSized more forms
all_wider more s h = let l = s.level in record { lawful = s.lawful; level = omega arith }

pub none_sized : (depth : ℕ) → AllSized depth []
none_sized depth = record { lawful = tt; level = omega arith }

pub more_sized : {depth : ℕ} {form : Form} {forms : List Form} → Sized depth form → AllSized depth forms → AllSized depth (form ∷ forms)
more_sized s all = let l = s.level in let k = all.level in record { lawful = (s.lawful, all.lawful); level = omega arith }

-- and one more behind them
pub last_sized : {depth : ℕ} {last : Form} (forms : List Form) → AllSized depth forms → Sized depth last → AllSized depth (forms ++ last ∷ [])
last_sized {depth} {last} [] all one = more_sized one (none_sized depth)
last_sized {depth} {last} (form ∷ forms) all one =
    let l = all.level in
    let first : Sized depth form = record { lawful = all.lawful.0; level = omega arith } in
    let others : AllSized depth forms = record { lawful = all.lawful.1; level = omega arith } in
    more_sized first (last_sized forms others one)

-- and others behind them
pub all_sized : {depth : ℕ} (forms others : List Form) → AllSized depth forms → AllSized depth others → AllSized depth (forms ++ others)
all_sized [] others all more = more
all_sized {depth} (form ∷ forms) others all more =
    let l = all.level in
    let first : Sized depth form = record { lawful = all.lawful.0; level = omega arith } in
    let rest : AllSized depth forms = record { lawful = all.lawful.1; level = omega arith } in
    more_sized first (all_sized forms others rest more)

pub word_sized : (depth : ℕ) (word : List ℕ) → IsTree (Word word) → Sized depth (Word word)
word_sized depth word h = let e = levels_word word in record { lawful = h; level = omega arith }

pub text_sized : (depth : ℕ) (text : List ℕ) → IsTextBytes text → Sized depth (Text text)
text_sized depth text h = let e = levels_text text in record { lawful = text_is_tree text h; level = omega arith }

pub node_sized : {depth : ℕ} {forms : List Form} → AllSized depth forms → depth < 99 → Sized (suc depth) (Node forms)
node_sized {depth} {forms} all h =
    let l = all.level in
    let e = levels_node forms in
    record { lawful = node_is_tree forms all.lawful (omega arith); level = omega arith }

-- ---- words of the table

both : (x y : Bool) → (x && y) ≡ true → (x ≡ true) × (y ≡ true)
both true y h = (refl, h)
both false y h = absurd (cc)

word_bytes : (word : List ℕ) → list_all is_word_byte word ≡ true → IsWordBytes word
word_bytes [] e = tt
word_bytes (b ∷ bytes) e = let p = both (is_word_byte b) (list_all is_word_byte bytes) e in (p.0, word_bytes bytes p.1)

pub letters_sized : (depth byte : ℕ) (bytes : List ℕ) → list_all is_word_byte (byte ∷ bytes) ≡ true → Sized depth (Word (byte ∷ bytes))
letters_sized depth byte bytes e = word_sized depth (byte ∷ bytes) (word_is_tree (byte ∷ bytes) (omega arith) (word_bytes (byte ∷ bytes) e))

-- a node that is headed by such a word
pub headed_sized : {depth : ℕ} {forms : List Form} (byte : ℕ) (bytes : List ℕ) → list_all is_word_byte (byte ∷ bytes) ≡ true → AllSized depth forms → depth < 99
    → Sized (suc depth) (Node (Word (byte ∷ bytes) ∷ forms))
headed_sized {depth} byte bytes e all h = node_sized (more_sized (letters_sized depth byte bytes e) all) h
