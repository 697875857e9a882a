-- The bytes of lawful texts can be spelled.
use Rattle.std.proofs.Common.{◌≡◌, ℕ, ◌||◌, ◌==◌, not, nat_le, nat_lt, true, List, [], ◌∷◌, ap, ◌⊎◌, inl, inr, arith}
use Rattle.std.specs.List.{list_all}
use Rattle.std.proofs.lemmas.Bool.Decides.{nat_tests}
use Rattle.std.proofs.lemmas.Bool.{cases_Bool}
use Rattle.pst_sexpr.specs.Bytes.{is_text_byte, is_escaped_byte}
use Rattle.pst_sexpr.specs.Lawful.{IsTextBytes}
use Rattle.pst_value.specs.Text.{is_printable}
use Rattle.pst_sexpr.proofs.Numbers.{both_hold, both_from}

text_byte : (b : ℕ) → is_printable b ≡ true → (is_text_byte b ≡ true) ⊎ (is_escaped_byte b ≡ true)
unfolding is_text_byte is_escaped_byte
text_byte b h = elim (cases_Bool (b == 34 || b == 92)) [
  | inl e ↦ inr e
  | inr e ↦
      let p = both_hold (nat_le 32 b) (nat_le b 126) h in
      let low : nat_lt 31 b ≡ true = grind (arith, nat_tests) in
      let high : nat_lt b 127 ≡ true = grind (arith, nat_tests) in
      inl (both_from _ _ (both_from _ _ low high) (ap not e))
]

pub text_bytes : (bytes : List ℕ) → list_all is_printable bytes ≡ true → IsTextBytes bytes
text_bytes [] h = tt
text_bytes (b ∷ bytes) h = let p = both_hold (is_printable b) (list_all is_printable bytes) h in (text_byte b p.0, text_bytes bytes p.1)
