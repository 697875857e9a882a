-- The numbers of a range are integers of 64 bits.
use Rattle.std.proofs.Common.{w64, ◌≡◌, ◌<◌, ◌≤◌, ◌^◌, ◌+ℤ◌, ◌-ℤ◌, unsigned_abs, ℕ, zero, suc, ℤ, pos, negsuc, true, List, [], ◌∷◌, length, refl, ◌∙◌, arith}
use Rattle.std.proofs.lemmas.Bool.{lt-ltb}
use Rattle.std.proofs.lemmas.Bool.Decides.{nat_tests}
use Rattle.std.proofs.lemmas.Int.{ints}
use Rattle.std.proofs.lemmas.List.{length-append}
use Rattle.std.specs.Int.RustNames.{FitsSigned}
use Rattle.std.specs.Prelude.{◌<ℤ◌}
use Rattle.pst_value.specs.declared.ty.Ty.{Ty}
use Rattle.pst_value.specs.declared.ty.Ty.TheVariants as ty
use Rattle.pst_value.specs.Text.{is_i64}
use Rattle.pst_operators.specs.Operators.{int, count_up}
use Rattle.pst_eval.proofs.Fitting.{EachFits, fit_int, each_append}

pub fits_from : (n : ℤ) → FitsSigned w64 n → is_i64 n ≡ true
fits_from (pos n) h = lt-ltb n (2 ^ 63) (omega (arith, ints, h))
fits_from (negsuc n) h = lt-ltb n (2 ^ 63) (omega (arith, ints, h))

pub fits_to : (n : ℤ) → is_i64 n ≡ true → FitsSigned w64 n
fits_to (pos n) h = let l : n < 2 ^ 63 = grind (arith, nat_tests) in omega (arith, ints, l)
fits_to (negsuc n) h = let l : n < 2 ^ 63 = grind (arith, nat_tests) in omega (arith, ints, l)

between : (m n : ℤ) (k : ℕ) → FitsSigned w64 m → FitsSigned w64 n → m <ℤ n → k < unsigned_abs (n -ℤ m) → FitsSigned w64 (m +ℤ pos k)
between m n k hm hn lt h = omega (arith, ints, hm, hn, lt, h)

pub length_count_up : (a : ℤ) (n : ℕ) → length (count_up a n) ≡ n
length_count_up a zero = refl
length_count_up a (suc n) = length-append (count_up a n) (int (a +ℤ pos n) ∷ []) ∙ omega (arith, length_count_up a n)

module _ (free vars : List Ty) (ops : List (List Ty)) where
  pub each_count_up : (m n : ℤ) (k : ℕ) → FitsSigned w64 m → FitsSigned w64 n → m <ℤ n → k ≤ unsigned_abs (n -ℤ m) → EachFits free vars ops (count_up m k) ty.Int
  each_count_up m n zero hm hn lt h = tt
  each_count_up m n (suc k) hm hn lt h =
      let l : k < unsigned_abs (n -ℤ m) = omega (arith, h) in
      let le : k ≤ unsigned_abs (n -ℤ m) = omega (arith, h) in
      each_append free vars ops (count_up m k) (int (m +ℤ pos k) ∷ []) ty.Int (each_count_up m n k hm hn lt le) (fit_int free vars ops (m +ℤ pos k) (fits_from _ (between m n k hm hn lt l)), tt)
