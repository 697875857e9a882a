-- The words that are written for numbers are read as these numbers.
use Rattle.std.proofs.Common.{◌≡◌, ℕ, suc, ◌^◌, ◌<◌, ◌≤◌, ℤ, pos, negsuc, Bool, true, false, List, [], ◌∷◌, length, Some, None, refl, ap, ◌∙◌, arith}
use Rattle.std.specs.Prelude.{decimal, nat_le, nat_lt, ◌==◌, ◌&&◌, if◌then◌else◌}
use Rattle.std.specs.List.{list_all}
use Rattle.std.specs.Fmt.{signed_decimal}
use Rattle.std.proofs.lemmas.Bool.Decides.{nat_tests}
use Rattle.std.proofs.lemmas.Str.Parse.{IsNumeralModel, IsDigitsTest, numerals_by_fold}
use Rattle.std.proofs.lemmas.Fmt.{digits_decimal, digits_value-decimal, decimal_nonempty}
use Rattle.pst_value.specs.Text.{is_i64}
use Rattle.pst_sexpr.specs.Integers.{is_digit, are_digits, is_integer, magnitude, negative, value, in_i64, integer_of}

pub both_hold : (a b : Bool) → (a && b) ≡ true → (a ≡ true) × (b ≡ true)
both_hold true b e = (refl, e)
both_hold false b e = absurd (cc)

pub both_from : (a b : Bool) → a ≡ true → b ≡ true → (a && b) ≡ true
both_from true b e f = f
both_from false b e f = e

digits_test : IsDigitsTest (λ ds. list_all is_digit ds ≡ true)
digits_test = record {
  empty = refl;
  parts = λ c cs e.
      let p = both_hold (is_digit c) (list_all is_digit cs) e in
      let q = both_hold (nat_le 48 c) (nat_le c 57) p.0 in
      ((grind (arith, nat_tests), grind (arith, nat_tests)), p.1);
  more = λ c cs k e.
      both_from (is_digit c) (list_all is_digit cs)
      (both_from (nat_le 48 c) (nat_le c 57) (grind (arith, nat_tests)) (grind (arith, nat_tests))) e;
}

-- the reading of digits, as std sees it
pub numerals : IsNumeralModel (λ ds. list_all is_digit ds ≡ true) (magnitude 0)
numerals = numerals_by_fold _ digits_test magnitude (record { empty = λ n. refl; more = λ n c cs k. refl })

-- ---- digits

pub digit_is : (c : ℕ) → is_digit c ≡ true → (48 ≤ c) × (c ≤ 57)
digit_is c e = let q = both_hold (nat_le 48 c) (nat_le c 57) e in (grind (arith, nat_tests), grind (arith, nat_tests))

not_minus : (c : ℕ) → is_digit c ≡ true → (c == 45) ≡ false
not_minus c e = let d = digit_is c e in grind (arith, nat_tests)

pub some_digits : (ds : List ℕ) → 0 < length ds → list_all is_digit ds ≡ true → are_digits ds ≡ true
some_digits [] n e = absurd (omega arith)
some_digits (c ∷ cs) n e = e

plain_integer : (ds : List ℕ) → 0 < length ds → list_all is_digit ds ≡ true → is_integer ds ≡ true
unfolding is_integer
plain_integer [] n e = absurd (omega arith)
plain_integer (c ∷ cs) n e =
    let p = both_hold (is_digit c) (list_all is_digit cs) e in
    ap (λ b. if b then are_digits cs else are_digits (c ∷ cs)) (not_minus c p.0) ∙ e

plain_value : (ds : List ℕ) → 0 < length ds → list_all is_digit ds ≡ true → value ds ≡ pos (magnitude 0 ds)
unfolding value
plain_value [] n e = absurd (omega arith)
plain_value (c ∷ cs) n e =
    let p = both_hold (is_digit c) (list_all is_digit cs) e in
    ap (λ b. if b then negative (magnitude 0 cs) else pos (magnitude 0 (c ∷ cs))) (not_minus c p.0)

signed_integer : (ds : List ℕ) → 0 < length ds → list_all is_digit ds ≡ true → is_integer (45 ∷ ds) ≡ true
unfolding is_integer
signed_integer ds n e = some_digits ds n e

signed_value : (ds : List ℕ) → value (45 ∷ ds) ≡ negative (magnitude 0 ds)
unfolding value
signed_value ds = refl

-- ---- what is written for a number

-- the word is an integer, and this number
pub record IsNumber (word : List ℕ) (number : ℤ) : Type 0 where
  pub integer : is_integer word ≡ true
  pub same : value word ≡ number

pub natural_word : (n : ℕ) → n < 2 ^ 64 → IsNumber (decimal n) (pos n)
natural_word n h =
    let d = digits_decimal numerals n h in
    let s = decimal_nonempty n h in
    record {
      integer = plain_integer (decimal n) s d;
      same = plain_value (decimal n) s d ∙ ap pos (digits_value-decimal numerals n h);
    }

pub negative_word : (n : ℕ) → suc n < 2 ^ 64 → IsNumber (45 ∷ decimal (suc n)) (negsuc n)
negative_word n h =
    let d = digits_decimal numerals (suc n) h in
    let s = decimal_nonempty (suc n) h in
    record {
      integer = signed_integer (decimal (suc n)) s d;
      same = signed_value (decimal (suc n)) ∙ ap negative (digits_value-decimal numerals (suc n) h);
    }

pub below : (n : ℕ) → nat_lt n (2 ^ 63) ≡ true → n < 2 ^ 63
below n e = grind (arith, nat_tests)

pub integer_word : (z : ℤ) → is_i64 z ≡ true → IsNumber (signed_decimal z) z
integer_word (pos n) e = let h = below n e in natural_word n (omega arith)
integer_word (negsuc n) e = let h = below n e in negative_word n (omega arith)

number_read : (word : List ℕ) (z : ℤ) → is_i64 z ≡ true → IsNumber word z → integer_of word ≡ Some z
unfolding integer_of
number_read word z e w =
    ap (λ b. if b then in_i64 (value word) else None) w.integer ∙ (ap in_i64 w.same ∙ ap (λ b. if b then Some z else None) e)

-- an integer of 64 bits is read as it was written
pub integer_of-signed_decimal : (z : ℤ) → is_i64 z ≡ true → integer_of (signed_decimal z) ≡ Some z
integer_of-signed_decimal z e = number_read (signed_decimal z) z e (integer_word z e)
