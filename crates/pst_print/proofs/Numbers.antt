-- The words of integers, and what they are read as.
use Rattle.std.proofs.Common.{◌≡◌, ℕ, suc, ◌^◌, ◌<◌, ℤ, pos, negsuc, true, List, ◌∷◌, ap, ◌∙◌, arith}
use Rattle.std.specs.Prelude.{decimal}
use Rattle.std.specs.Fmt.{signed_decimal}
use Rattle.std.proofs.lemmas.Fmt.{digits_decimal, decimal_nonempty}
use Rattle.pst_sexpr.specs.declared.form.Form.TheVariants.{Word}
use Rattle.pst_sexpr.specs.Lawful.{IsTree}
use Rattle.pst_sexpr.proofs.Digits.{digits_are_word, minus_is_word}
use Rattle.pst_sexpr.proofs.Made.{word_is_tree}
use Rattle.pst_value.specs.Text.{is_i64}
use Rattle.pst_sexpr.specs.Integers.{is_integer, value}
use Rattle.pst_sexpr.proofs.Numbers.{both_from, numerals, natural_word, negative_word, below}
use Rattle.pst_syntax.specs.Places.{is_positive, is_place, natural}

-- ---- what is written for a number

-- the word of a number is read as it
pub record Spells (word : List ℕ) (number : ℤ) : Type 0 where
  pub integer : is_integer word ≡ true
  pub same : value word ≡ number
  pub lawful : IsTree (Word word)

pub spells_natural : (n : ℕ) → n < 2 ^ 64 → Spells (decimal n) (pos n)
spells_natural n h =
    let d = digits_decimal numerals n h in
    let w = natural_word n h in
    record {
      integer = w.integer;
      same = w.same;
      lawful = word_is_tree (decimal n) (decimal_nonempty n h) (digits_are_word (decimal n) d);
    }

spells_negative : (n : ℕ) → suc n < 2 ^ 64 → Spells (45 ∷ decimal (suc n)) (negsuc n)
spells_negative n h =
    let d = digits_decimal numerals (suc n) h in
    let w = negative_word n h in
    record {
      integer = w.integer;
      same = w.same;
      lawful = word_is_tree (45 ∷ decimal (suc n)) (omega arith) (minus_is_word, digits_are_word (decimal (suc n)) d);
    }

pub spells_integer : (z : ℤ) → is_i64 z ≡ true → Spells (signed_decimal z) z
spells_integer (pos n) e = let h = below n e in spells_natural n (omega arith)
spells_integer (negsuc n) e = let h = below n e in spells_negative n (omega arith)

-- ---- the place of an item

pub spells_place : (z : ℤ) → is_positive z ≡ true → is_i64 z ≡ true → Spells (decimal (natural z)) z
spells_place (pos n) p e = let h = below n e in spells_natural n (omega arith)
spells_place (negsuc n) p e = absurd (cc)

pub place_read : (word : List ℕ) (z : ℤ) → Spells word z → is_positive z ≡ true → is_place word ≡ true
place_read word z s p = both_from (is_integer word) (is_positive (value word)) s.integer (ap is_positive s.same ∙ p)
