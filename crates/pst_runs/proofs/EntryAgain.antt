-- The entries of a map are read again from what is written for them.
use Rattle.std.proofs.Common.{◌≡◌, ℕ, ℤ, suc, ◌<◌, Bool, true, false, length, List, [], ◌∷◌, Option, Some, refl, ap, ◌∙◌, arith}
use Rattle.std.specs.Prelude.{codes}
use Rattle.std.specs.Fmt.{signed_decimal}
use Rattle.std.specs.List.{list_all}
use Rattle.std.specs.Str.{bytes_eq}
use Rattle.pst_runs.specs.Values.{each, key_word, key_at, key_of, pair_in, pair_of, entry_key, entry_value}
use Rattle.pst_sexpr.specs.Bytes.{is_word_byte}
use Rattle.pst_sexpr.specs.Parts.{and_then, node_at}
use Rattle.pst_sexpr.specs.declared.form.Form.TheVariants.{Word, Text, Node, outs-Word, outs-Text, outs-Node}
use Rattle.pst_sexpr.specs.declared.form.Form.{Form}
use Rattle.pst_value.specs.Keys.{is_key}
use Rattle.pst_value.specs.Text.{is_i64, is_text, is_printable}
use Rattle.pst_value.specs.declared.key.Key.{Key}
use Rattle.pst_value.specs.declared.key.Key.TheVariants as key
use Rattle.pst_value.specs.declared.key.KeyTy.{KeyTy}
use Rattle.pst_value.specs.declared.key.KeyTy.TheVariants as kind
use Rattle.pst_value.specs.declared.value.Value.{Value}
use Rattle.pst_sexpr.proofs.Numbers.{both_hold}
use Rattle.pst_runs.proofs.Numbers.{early_apart, SpellsInteger, spells_integer}
use Rattle.pst_runs.proofs.Sized.{Sized, AllSized, none_sized, more_sized, word_sized, text_sized, letters_sized, node_sized}
use Rattle.pst_runs.proofs.Texts.{text_bytes}
use Rattle.pst_runs.specs.Written.{truth_word, key_form, entries_form}

-- ---- keys

-- the tree of a key has a spelling, and is read as the key
record KeyAgain (depth : ℕ) (k : Key) : Type 0 where
  sized : Sized depth (key_form k)
  reads : key_of (key_form k) ≡ Some k

key_of_word : (word : List ℕ) → key_of (Word word) ≡ key_word word
unfolding key_of
key_of_word word = ap key_at (outs-Word word)

integer_key : (n : ℤ) → SpellsInteger (signed_decimal n) n → key_word (signed_decimal n) ≡ Some (key.Int n)
unfolding key_word
integer_key n s =
    let word = signed_decimal n in
    let t : bytes_eq word (codes "true") ≡ false = early_apart word 116 _ s.early (omega arith) in
    let f : bytes_eq word (codes "false") ≡ false = early_apart word 102 _ s.early (omega arith) in
    rw (t, f, s.integer) refl

truth_key : (b : Bool) → key_word (truth_word b) ≡ Some (key.Bool b)
unfolding key_word
truth_key true = refl
truth_key false = refl

truth_sized : (depth : ℕ) (b : Bool) → Sized depth (Word (truth_word b))
unfolding is_word_byte
truth_sized depth true = letters_sized depth _ _ refl
truth_sized depth false = letters_sized depth _ _ refl

text_key : (t : List ℕ) → key_of (Text t) ≡ Some (key.Text t)
unfolding key_of
text_key t = ap key_at (outs-Text t)

int_again : (depth : ℕ) (n : ℤ) → is_i64 n ≡ true → KeyAgain depth (key.Int n)
int_again depth n e =
    let s = spells_integer n e in
    record { sized = word_sized depth (signed_decimal n) s.lawful; reads = key_of_word (signed_decimal n) ∙ integer_key n s }

truth_again : (depth : ℕ) (b : Bool) → KeyAgain depth (key.Bool b)
truth_again depth b = record { sized = truth_sized depth b; reads = key_of_word (truth_word b) ∙ truth_key b }

text_again : (depth : ℕ) (t : List ℕ) → is_text t ≡ true → KeyAgain depth (key.Text t)
text_again depth t e =
    let p = both_hold _ (list_all is_printable t) e in
    record { sized = text_sized depth t (text_bytes t p.1); reads = text_key t }

key_again : (depth : ℕ) (kt : KeyTy) (k : Key) → is_key kt k ≡ true → KeyAgain depth k
key_again depth kind.Int (key.Int n) e = int_again depth n e
key_again depth kind.Int (key.Bool b) e = absurd (cc)
key_again depth kind.Int (key.Text t) e = absurd (cc)
key_again depth kind.Bool (key.Int n) e = absurd (cc)
key_again depth kind.Bool (key.Bool b) e = truth_again depth b
key_again depth kind.Bool (key.Text t) e = absurd (cc)
key_again depth kind.Text (key.Int n) e = absurd (cc)
key_again depth kind.Text (key.Bool b) e = absurd (cc)
key_again depth kind.Text (key.Text t) e = text_again depth t e

-- ---- entries

-- the trees of entries have spellings, their keys are read as the keys, and their values as the forms' are
pub record EntriesAgain (depth : ℕ) (ks : List Key) (forms : List Form) : Type 0 where
  pub sized : AllSized (suc depth) (entries_form ks forms)
  pub keys : each entry_key (entries_form ks forms) ≡ Some ks
  pub values : (v : Form → Option Value) → each (entry_value v) (entries_form ks forms) ≡ each v forms

pair_is : (k v : Form) → pair_of (Node (k ∷ v ∷ [])) ≡ Some (k, v)
pair_is k v = ap (λ x. and_then (node_at x) pair_in) (outs-Node (k ∷ v ∷ []))

key_is : (k : Key) (form : Form) → key_of (key_form k) ≡ Some k → entry_key (Node (key_form k ∷ form ∷ [])) ≡ Some k
key_is k form e = ap (λ o. and_then o (λ entry. key_of entry.0)) (pair_is (key_form k) form) ∙ e

value_is : (v : Form → Option Value) (k form : Form) → entry_value v (Node (k ∷ form ∷ [])) ≡ v form
value_is v k form = ap (λ o. and_then o (λ entry. v entry.1)) (pair_is k form)

one_sized : {depth : ℕ} {form : Form} {k : Key} → KeyAgain depth k → Sized depth form → depth < 99 → Sized (suc depth) (Node (key_form k ∷ form ∷ []))
one_sized {depth} again s h = node_sized (more_sized again.sized (more_sized s (none_sized depth))) h

pub entries_again : (depth : ℕ) (kt : KeyTy) (ks : List Key) (forms : List Form) → depth < 99 → length ks ≡ length forms → list_all (is_key kt) ks ≡ true
    → AllSized depth forms → EntriesAgain depth ks forms
entries_again depth kt [] [] h l e all = record { sized = none_sized (suc depth); keys = refl; values = λ v. refl }
entries_again depth kt [] (form ∷ forms) h l e all = absurd (omega (arith, l))
entries_again depth kt (k ∷ ks) [] h l e all = absurd (omega (arith, l))
entries_again depth kt (k ∷ ks) (form ∷ forms) h l e all =
    let p = both_hold (is_key kt k) (list_all (is_key kt) ks) e in
    let first = key_again depth kt k p.0 in
    let level = all.level in
    let one : Sized depth form = record { lawful = all.lawful.0; level = omega arith } in
    let others : AllSized depth forms = record { lawful = all.lawful.1; level = omega arith } in
    let rest = entries_again depth kt ks forms h (omega (arith, l)) p.1 others in
    record {
      sized = more_sized (one_sized first one h) rest.sized;
      keys =
          ap (λ o. and_then o (λ b. and_then (each entry_key (entries_form ks forms)) (λ bs. Some (b ∷ bs)))) (key_is k form first.reads)
          ∙ ap (λ o. and_then o (λ bs. Some (k ∷ bs))) rest.keys;
      values = λ v.
          ap (λ o. and_then o (λ b. and_then (each (entry_value v) (entries_form ks forms)) (λ bs. Some (b ∷ bs)))) (value_is v (key_form k) form)
          ∙ ap (λ r. and_then (v form) (λ b. and_then r (λ bs. Some (b ∷ bs)))) (rest.values v);
    }
