-- Two packed values are kept alike just where the values are the same.
use Rattle.std.proofs.Common.{◌≡◌, ℕ, ℤ, Bool, true, false, List, refl, sym, ap, ◌∙◌, Option, Some, None, nat_eq, ◌-◌, length, subst}
use Rattle.std.specs.Prelude.{replicate}
use Rattle.std.specs.Cmp.Lexicographic.{pointwise, bytes_decides}
use Rattle.std.proofs.lemmas.Bool.{eqb-true, eq-eqb}
use Rattle.std.proofs.lemmas.Int.{to_z-of_z}
use mir.Syntax.{w64}
use mir.Val.{SFits, of_z, to_z}
use Rattle.pst_value.proofs.Exact.{same_value-Decides}
use Rattle.pst_value.specs.Equality.{same_value}
use Rattle.pst_value.specs.declared.value.Value.{Value, Int, roll-Value, out-Value, roll-out-Value, fold-roll-Value, map-Value}
use Rattle.pst_value.specs.declared.value.Value.TheVariants.{rolls-Int}
use Rattle.pst_value.specs.declared.value.Value.TheOpen.{Value-F}
use Rattle.pst_judge.proofs.Apart.{code-apart}
use Rattle.pst_judge.specs.Codes.{code}
use Rattle.pst_judge.specs.Forms.{IsForm}
use Rattle.pst_judge.specs.declared.packed.PackedForm.{PackedForm}
use Rattle.pst_judge.specs.Kept.{int_level, int_of, padded, bytes_as, bytes_of}

-- the form of a value, under another name of the value
pub named : (form : PackedForm) (v w : Value) → v ≡ w → IsForm form v → IsForm form w
named form v w e h = subst (IsForm form) e h

-- two tests of the same fact
same-tests : (a b : Bool) → (a ≡ true → b ≡ true) → (b ≡ true → a ≡ true) → a ≡ b
same-tests true b p q = sym (p refl)
same-tests false true p q = q refl
same-tests false false p q = refl

one_code : (v w : Value) → padded (code v) ≡ padded (code w) → v ≡ w
one_code v w e = (code-apart v w (replicate (24 - length (code v)) 0) (replicate (24 - length (code w)) 0) e).0

bytes_of-None : (v : Value) → None ≡ int_of v → bytes_of v ≡ padded (code v)
bytes_of-None v e = ap (bytes_as (code v)) (sym e)

-- bytes are equal just where the values of which they are kept are, none of which is an integer
pub bytes-same : (v w : Value) (xs ys : List ℕ) → None ≡ int_of v → None ≡ int_of w → xs ≡ bytes_of v → ys ≡ bytes_of w
    → pointwise nat_eq xs ys ≡ same_value v w
bytes-same v w xs ys none_v none_w p q = same-tests (pointwise nat_eq xs ys) (same_value v w)
    (λ e. (same_value-Decides v w).1 (one_code v w (sym (bytes_of-None v none_v) ∙ sym p ∙ (bytes_decides xs ys).0 e ∙ q ∙ bytes_of-None w none_w)))
    (λ e. (bytes_decides xs ys).1 (p ∙ ap bytes_of ((same_value-Decides v w).0 e) ∙ sym q))

int-out : (d : Value-F Value) (n : ℤ) → int_of (roll-Value d) ≡ Some n → roll-Value d ≡ Int n
unfolding int_of
int-out d n e = at d (sym (fold-roll-Value (Option ℤ) int_level d) ∙ e)
  where
    at : (c : Value-F Value) → int_level (map-Value Value (Option ℤ) int_of c) ≡ Some n → roll-Value c ≡ Int n
    at (Value-F.Int m) h = let p : m ≡ n = cc in rolls-Int m ∙ ap Int p
    at _ h = cc

-- the value that is an integer
is_int : (v : Value) (n : ℤ) → int_of v ≡ Some n → v ≡ Int n
is_int v n e = sym (roll-out-Value v) ∙ int-out (out-Value v) n (ap int_of (roll-out-Value v) ∙ e)

-- integers are equal just where the values that they are are
pub ints-same : (v w : Value) (m n : ℤ) → SFits w64 m → SFits w64 n → Some m ≡ int_of v → Some n ≡ int_of w
    → nat_eq (of_z w64 m) (of_z w64 n) ≡ same_value v w
ints-same v w m n fits_m fits_n p q = same-tests (nat_eq (of_z w64 m) (of_z w64 n)) (same_value v w)
    (λ e. let bits : m ≡ n = sym (to_z-of_z w64 m fits_m) ∙ ap (to_z w64) (eqb-true (of_z w64 m) (of_z w64 n) e) ∙ to_z-of_z w64 n fits_n in
    (same_value-Decides v w).1 (is_int v m (sym p) ∙ ap Int bits ∙ sym (is_int w n (sym q))))
    (λ e. let same : Some m ≡ Some n = p ∙ ap int_of ((same_value-Decides v w).0 e) ∙ sym q in
    let number : m ≡ n = cc in
    eq-eqb (of_z w64 m) (of_z w64 n) (ap (of_z w64) number))

-- values of which only one is an integer
pub forms-differ : (v w : Value) (n : ℤ) → Some n ≡ int_of v → None ≡ int_of w → false ≡ same_value v w
forms-differ v w n p q = by (same_value v w) refl
  where
    by : (b : Bool) → same_value v w ≡ b → false ≡ b
    by true e = let h : Some n ≡ None = p ∙ ap int_of ((same_value-Decides v w).0 e) ∙ sym q in cc
    by false e = refl

pub forms-differ-turned : (v w : Value) (n : ℤ) → None ≡ int_of v → Some n ≡ int_of w → false ≡ same_value v w
forms-differ-turned v w n p q = by (same_value v w) refl
  where
    by : (b : Bool) → same_value v w ≡ b → false ≡ b
    by true e = let h : None ≡ Some n = p ∙ ap int_of ((same_value-Decides v w).0 e) ∙ sym q in cc
    by false e = refl
