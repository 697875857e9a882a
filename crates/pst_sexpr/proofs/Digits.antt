-- Digits may stand in a word, and so may a minus sign.
use Rattle.std.proofs.Common.{◌≡◌, ◌&&◌, ℕ, nat_le, Bool, true, false, List, [], ◌∷◌, refl, arith}
use Rattle.std.specs.List.{list_all}
use Rattle.std.proofs.lemmas.Bool.Decides.{nat_tests}
use Rattle.pst_sexpr.specs.Bytes.{is_word_byte}
use Rattle.pst_sexpr.specs.Grammar.{IsWordBytes}

abbrev is_digit : ℕ → Bool
is_digit byte = nat_le 48 byte && nat_le byte 57

both : (x y : Bool) → (x && y) ≡ true → (x ≡ true) × (y ≡ true)
both true y h = (refl, h)
both false y h = absurd (cc)

word_byte : (byte : ℕ) → nat_le 48 byte ≡ true → nat_le byte 57 ≡ true → is_word_byte byte ≡ true
unfolding is_word_byte
word_byte byte low high = grind (arith, nat_tests)

pub digits_are_word : (bytes : List ℕ) → list_all (λ byte. nat_le 48 byte && nat_le byte 57) bytes ≡ true → IsWordBytes bytes
digits_are_word [] e = tt
digits_are_word (byte ∷ bytes) e =
    let p = both (is_digit byte) (list_all is_digit bytes) e in
    let q = both (nat_le 48 byte) (nat_le byte 57) p.0 in
    (word_byte byte q.0 q.1, digits_are_word bytes p.1)

pub minus_is_word : is_word_byte 45 ≡ true
unfolding is_word_byte
minus_is_word = refl
