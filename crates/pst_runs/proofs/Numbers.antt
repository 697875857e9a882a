-- The words of integers and variables, and what they are read as.
use Rattle.std.proofs.Common.{◌≡◌, ℕ, suc, ◌<◌, ◌≤◌, ℤ, pos, negsuc, Bool, true, false, List, [], ◌∷◌, length, Some, None, refl, ap, ◌∙◌, arith}
use Rattle.std.specs.Prelude.{codes, decimal, nat_le, ◌==◌, ◌&&◌, if◌then◌else◌}
use Rattle.std.specs.Fmt.{signed_decimal}
use Rattle.std.specs.List.{list_all}
use Rattle.std.specs.Str.{bytes_eq}
use Rattle.std.proofs.lemmas.Bool.Decides.{nat_tests}
use Rattle.std.proofs.lemmas.Fmt.{digits_decimal, digits_value-decimal, decimal_nonempty, length-decimal-le}
use Rattle.pst_runs.specs.Values.{number_in, variable_of, integer_or, word_value}
use Rattle.pst_sexpr.proofs.Digits.{digits_are_word, minus_is_word}
use Rattle.pst_sexpr.proofs.Made.{word_is_tree}
use Rattle.pst_sexpr.specs.Bytes.{is_word_byte}
use Rattle.pst_sexpr.specs.Lawful.{IsTree}
use Rattle.pst_sexpr.specs.Parts.{and_then}
use Rattle.pst_sexpr.specs.declared.form.Form.TheVariants.{Word}
use Rattle.pst_value.specs.Text.{is_i64}
use Rattle.pst_value.specs.declared.value.Value.{Int, Var}
use Rattle.pst_sexpr.proofs.Numbers.{both_hold, both_from, digit_is, numerals, some_digits, below, integer_of-signed_decimal}
use Rattle.pst_sexpr.specs.Integers.{is_digit, is_integer, magnitude, integer_of}

dollar_is_word : is_word_byte 36 ≡ true
unfolding is_word_byte
dollar_is_word = refl

-- ---- words that begin before the letters

abbrev pub IsEarly : List ℕ → Type 0
IsEarly [] = ⊥
IsEarly (byte ∷ bytes) = byte < 58

byte_apart : (b c : ℕ) (rest : Bool) → b < 58 → 58 ≤ c → ((b == c) && rest) ≡ false
byte_apart b c rest h k = let e : (b == c) ≡ false = grind (arith, nat_tests) in ap (λ x. x && rest) e

-- such a word is no word of letters
pub early_apart : (word : List ℕ) (c : ℕ) (letters : List ℕ) → IsEarly word → 58 ≤ c → bytes_eq word (c ∷ letters) ≡ false
early_apart [] c letters h k = absurd h
early_apart (b ∷ bytes) c letters h k = byte_apart b c (bytes_eq bytes letters) h k

early_digits : (ds : List ℕ) → 0 < length ds → list_all is_digit ds ≡ true → IsEarly ds
early_digits [] n e = absurd (omega arith)
early_digits (c ∷ cs) n e = let p = both_hold (is_digit c) (list_all is_digit cs) e in let d = digit_is c p.0 in omega arith

-- ---- integers

-- the word of an integer is read as it
pub record SpellsInteger (word : List ℕ) (z : ℤ) : Type 0 where
  pub integer : integer_of word ≡ Some z
  pub early : IsEarly word
  pub lawful : IsTree (Word word)

spells_word : (z : ℤ) → is_i64 z ≡ true → IsEarly (signed_decimal z) → IsTree (Word (signed_decimal z)) → SpellsInteger (signed_decimal z) z
spells_word z e early lawful = record { integer = integer_of-signed_decimal z e; early = early; lawful = lawful }

pub spells_integer : (z : ℤ) → is_i64 z ≡ true → SpellsInteger (signed_decimal z) z
spells_integer (pos n) e =
    let h = below n e in
    let d = digits_decimal numerals n (omega arith) in
    let s = decimal_nonempty n (omega arith) in
    spells_word (pos n) e (early_digits (decimal n) s d) (word_is_tree (decimal n) s (digits_are_word (decimal n) d))
spells_integer (negsuc n) e =
    let h = below n e in
    let d = digits_decimal numerals (suc n) (omega arith) in
    spells_word (negsuc n) e lit_early (word_is_tree (45 ∷ decimal (suc n)) (omega arith) (minus_is_word, digits_are_word (decimal (suc n)) d))
  where
    lit_early : 45 < 58
    lit_early = omega arith

-- the value of a word that is no truth value
word_is : (symbolic : Bool) (word : List ℕ) → IsEarly word → word_value symbolic word ≡ integer_or (integer_of word) (variable_of symbolic word)
unfolding word_value
word_is symbolic word h =
    let t : bytes_eq word (codes "true") ≡ false = early_apart word 116 _ h (omega arith) in
    let f : bytes_eq word (codes "false") ≡ false = early_apart word 102 _ h (omega arith) in
    rw (t, f) refl

pub integer_read : (symbolic : Bool) (word : List ℕ) (z : ℤ) → SpellsInteger word z → word_value symbolic word ≡ Some (Int z)
integer_read symbolic word z s = word_is symbolic word s.early ∙ ap (λ o. integer_or o (variable_of symbolic word)) s.integer

-- ---- variables

number_read : (n : ℕ) → n < 10000 → number_in (decimal n) ≡ Some n
number_read n h =
    let d = digits_decimal numerals n (omega arith) in
    let s = decimal_nonempty n (omega arith) in
    let l : length (decimal n) ≤ 4 = length-decimal-le 4 n (omega arith) (omega arith) (omega arith) in
    let short : nat_le (length (decimal n)) 4 ≡ true = grind (arith, nat_tests) in
    ap (λ b. if b then Some (magnitude 0 (decimal n)) else None) (both_from _ _ short (some_digits (decimal n) s d))
    ∙ ap (λ m. Some m) (digits_value-decimal numerals n (omega arith))

no_integer : (ds : List ℕ) → integer_of (36 ∷ ds) ≡ None
unfolding integer_of is_integer
no_integer ds = refl

-- the word of a variable is read as it, and as no integer
pub variable_read : (n : ℕ) → n < 10000 → word_value true (36 ∷ decimal n) ≡ Some (Var n)
variable_read n h =
    let early : 36 < 58 = omega arith in
    word_is true (36 ∷ decimal n) early
    ∙ ap (λ o. integer_or o (variable_of true (36 ∷ decimal n))) (no_integer (decimal n))
    ∙ ap (λ o. and_then o (λ number. Some (Var number))) (number_read n h)

pub variable_is_tree : (n : ℕ) → n < 10000 → IsTree (Word (36 ∷ decimal n))
variable_is_tree n h =
    word_is_tree (36 ∷ decimal n) (omega arith) (dollar_is_word, digits_are_word (decimal n) (digits_decimal numerals n (omega arith)))
