-- A number that digits spell is no less than that of its first digits.
use Rattle.std.proofs.Common.{◌≡◌, ℕ, suc, ◌+◌, ◌-◌, ◌*◌, ◌≤◌, ◌<◌, ◌^◌, List, [], ◌∷◌, Some, None, ap, ◌∙◌, arith, drop, get_or, length, drop-cons, refl}
use Rattle.std.proofs.Math.ListN.{drop_of_length-le}
use Rattle.std.proofs.lemmas.Bool.Decides.{nat_tests}
use Rattle.std.specs.Prelude.{zero, not, ◌==◌, nat_lt, Bool, true, false, if◌then◌else◌}
use Rattle.pst_sexpr.specs.Integers.{magnitude, in_u64}

grows : (digits : List ℕ) (number : ℕ) → number ≤ magnitude number digits
grows [] number = omega arith
grows (digit ∷ digits) number = omega (arith, grows digits (number * 10 + (digit - 48)))

wide : (small large : ℕ) → small ≤ large → in_u64 small ≡ None → in_u64 large ≡ None
wide small large h e = grind (arith, nat_tests)

-- where the first digits pass 64 bits, all do
stays_wide : (number digit : ℕ) (digits : List ℕ) → in_u64 (number * 10 + (digit - 48)) ≡ None → in_u64 (magnitude number (digit ∷ digits)) ≡ None
stays_wide number digit digits e = wide (number * 10 + (digit - 48)) (magnitude number (digit ∷ digits)) (grows digits (number * 10 + (digit - 48))) e

-- a number of 64 bits has them
pub fits_u64 : (number : ℕ) → number < 2 ^ 64 → in_u64 number ≡ Some number
fits_u64 number h = grind (arith, nat_tests)

-- where the digits so far pass 64 bits with the next one, all do
pub passes : (digits : List ℕ) (number i : ℕ) → i < length digits → magnitude 0 digits ≡ magnitude number (drop i digits) → in_u64 (number * 10 + (get_or digits i 0 - 48)) ≡ None → in_u64 (magnitude 0 digits) ≡ None
passes digits number i h e n =
    let f : drop i digits ≡ get_or digits i 0 ∷ drop (suc i) digits = drop-cons digits i 0 h in
    let g : magnitude 0 digits ≡ magnitude number (get_or digits i 0 ∷ drop (suc i) digits) = e ∙ ap (magnitude number) f in
    ap in_u64 g ∙ stays_wide number (get_or digits i 0) (drop (suc i) digits) n

-- with no digit left the number is that of all
pub ends : (digits : List ℕ) (number i : ℕ) → number < 2 ^ 64 → length digits ≤ i → magnitude 0 digits ≡ magnitude number (drop i digits) → in_u64 (magnitude 0 digits) ≡ Some number
ends digits number i h l e =
    let f : drop i digits ≡ [] = drop_of_length-le digits l in
    let g : magnitude 0 digits ≡ number = e ∙ ap (magnitude number) f in
    ap in_u64 g ∙ fits_u64 number h

-- a number that has more than 64 bits is not 0
pub wide_is_positive : (number : ℕ) → in_u64 number ≡ None → nat_lt 0 number ≡ true
wide_is_positive zero e = absurd cc
wide_is_positive (suc number) e = grind (arith, nat_tests)

same_positive : (number other : ℕ) → other ≡ number → not (other == 0) ≡ nat_lt 0 number
same_positive zero other e = rw e refl
same_positive (suc number) other e = grind (arith, nat_tests)

in_u64_is : (number other : ℕ) (b : Bool) → (if b then Some number else None) ≡ Some other → other ≡ number
in_u64_is number other true e = cc
in_u64_is number other false e = absurd cc

-- a number of 64 bits is the one that was read
pub narrow_is_positive : (number other : ℕ) → in_u64 number ≡ Some other → not (other == 0) ≡ nat_lt 0 number
narrow_is_positive number other e = same_positive number other (in_u64_is number other (nat_lt number (2 ^ 64)) e)
