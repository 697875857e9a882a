-- One step of a loop over a list.
use Rattle.std.proofs.Common.{◌≡◌, ℕ, suc, ◌+◌, ◌<◌, false, ◌&&◌, List, ◌∷◌, length, drop, get_or, sym, ap, ◌∙◌, add-one}
use Rattle.std.proofs.Math.Seq.{drop-cons}
use Rattle.pst_typing.specs.ByParts.{all_are}
use Rattle.pst_value.specs.Equality.{same_ty}
use Rattle.pst_value.specs.declared.ty.Ty.{Ty}

pub split_at : {X : Type 0} (xs : List X) (i : ℕ) (x : X) → i < length xs → x ≡ get_or xs i x → drop i xs ≡ x ∷ drop (i + 1) xs
split_at xs i x h e = drop-cons xs i x h ∙ ap (λ y. y ∷ drop (suc i) xs) (sym e) ∙ ap (λ n. x ∷ drop n xs) (sym (add-one i))

-- types of which one is another
pub all_are_not : (Ss : List Ty) (i : ℕ) (S T : Ty) → i < length Ss → S ≡ get_or Ss i S → all_are (drop i Ss) T ≡ all_are Ss T → same_ty S T ≡ false → all_are Ss T ≡ false
all_are_not Ss i S T h is rest other = sym rest ∙ ap (λ xs. all_are xs T) (split_at Ss i S h is) ∙ ap (λ b. b && all_are (drop (i + 1) Ss) T) other
