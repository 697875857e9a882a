-- Where no fault is found, none of its parts is one.
use Rattle.std.proofs.Common.{◌≡◌, ◌||◌, not, ℕ, Bool, true, false, Option, Some, None, refl}
use Rattle.std.specs.Prelude.{if◌then◌else◌}
use Rattle.pst_case.specs.Shape.{or_else, at_command}
use Rattle.pst_case.specs.declared.shaping.CaseFaultKind.{CaseFaultKind}

pub if_none : {A : Type 0} (b : Bool) (k : A) (o : Option A) → (if b then Some k else o) ≡ None → (b ≡ false) × (o ≡ None)
if_none true k o h = absurd (cc)
if_none false k o h = (refl, h)

pub last_of_four : {A : Type 0} (a b c d : Bool) (p q r s : A) → (if a then Some p else if b then Some q else if c then Some r else if d then Some s else None) ≡ None → d ≡ false
last_of_four true b c d p q r s h = absurd (cc)
last_of_four false true c d p q r s h = absurd (cc)
last_of_four false false true d p q r s h = absurd (cc)
last_of_four false false false true p q r s h = absurd (cc)
last_of_four false false false false p q r s h = refl

pub or_else_none : {A : Type 0} (a b : Option A) → or_else a b ≡ None → (a ≡ None) × (b ≡ None)
or_else_none None b h = (refl, h)
or_else_none (Some x) b h = absurd (cc)

pub at_command_none : (n : ℕ) (o : Option CaseFaultKind) → at_command n o ≡ None → o ≡ None
at_command_none n None h = refl
at_command_none n (Some k) h = absurd (cc)

pub first_of_or : (a b : Bool) → (not a || b) ≡ false → a ≡ true
first_of_or true b h = refl
first_of_or false b h = absurd (cc)

pub or_second : (a b : Bool) → (a || b) ≡ false → (a ≡ false) × (b ≡ false)
or_second true b h = absurd (cc)
or_second false b h = (refl, h)

pub not_false : (b : Bool) → not b ≡ false → b ≡ true
not_false true h = refl
not_false false h = absurd (cc)
