-- Equal types, and steps of the decision read backwards.
use Rattle.std.proofs.Common.{◌≡◌, Bool, true, false, ◌&&◌, Option, Some, None, refl, ap, ◌∙◌}
use Rattle.pst_typing.specs.Decision.{◌>>=◌, where_true}
use Rattle.pst_value.proofs.ExactTypes.{same_ty-Decides}
use Rattle.pst_value.specs.Equality.{same_ty}
use Rattle.pst_value.specs.Fits.{is_ty}
use Rattle.pst_value.specs.declared.ty.Ty.{Ty}

pub exact : (a b : Ty) → same_ty a b ≡ true → a ≡ b
exact a b h = (same_ty-Decides a b).0 h

pub same_refl : (a : Ty) → same_ty a a ≡ true
same_refl a = (same_ty-Decides a a).1 refl

pub then_some : {A B : Type 0} (o : Option A) (f : A → Option B) (b : B) → (o >>= f) ≡ Some b → (a : A) × (o ≡ Some a) × (f a ≡ Some b)
then_some None f b h = absurd (cc)
then_some (Some a) f b h = (a, refl, h)

pub where_some : {A : Type 0} (t : Bool) (o : Option A) (b : A) → where_true t o ≡ Some b → (t ≡ true) × (o ≡ Some b)
where_some true o b h = (refl, h)
where_some false o b h = absurd (cc)

pub some_is : {A : Type 0} (a b : A) → Some a ≡ Some b → a ≡ b
some_is a b e = cc

-- a type that is found is the wanted one
pub is_found : (o : Option Ty) (T : Ty) → is_ty o T ≡ true → o ≡ Some T
is_found None T h = absurd (cc)
is_found (Some S) T h = ap Some (exact S T h)

-- the wanted type is found
pub found_is : (o : Option Ty) (T : Ty) → o ≡ Some T → is_ty o T ≡ true
found_is o T h = ap (λ p. is_ty p T) h ∙ same_refl T

pub both : (x y : Bool) → (x && y) ≡ true → (x ≡ true) × (y ≡ true)
both true y h = (refl, h)
both false y h = absurd (cc)
