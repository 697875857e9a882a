-- The parts of a type, by the form of its kind.
use Rattle.std.proofs.Common.{◌≡◌, ℕ, zero, suc, ◌-◌, true, false, List, Some, None, slice_get, refl, sym, ap, ◌∙◌, arith}
use Rattle.pst_typing.specs.Decision.{◌>>=◌, item_at, item_type, parts_at, part_type, referred_at, referred_type, is_ref_at, is_ref, is_sequence_at, is_sequence, values_at, values_type}
use Rattle.pst_typing.specs.Forms.{formed}
use Rattle.pst_typing.specs.declared.kinds.form.KindForm.{KindForm}
use Rattle.pst_typing.specs.declared.kinds.form.KindForm.TheVariants as form
use Rattle.pst_value.specs.Subst.{numbered}
use Rattle.pst_value.specs.declared.key.KeyTy.{KeyTy}
use Rattle.pst_value.specs.declared.ty.Ty.{Ty, out-Ty}
use Rattle.pst_value.specs.declared.ty.Ty.TheOpen.{Ty-F}
use Rattle.pst_value.specs.declared.ty.Ty.TheVariants as ty

-- one level of the type of a form
abbrev opened : KindForm → Ty-F Ty
opened form.Int = Ty-F.Int
opened form.Bool = Ty-F.Bool
opened form.Text = Ty-F.Text
opened (form.Tuple ts) = Ty-F.Tuple ts
opened (form.List t) = Ty-F.List t
opened (form.Map k t) = Ty-F.Map k t
opened (form.Ref t) = Ty-F.Ref t
opened form.Call = Ty-F.Call

opens : (f : KindForm) → out-Ty (formed f) ≡ opened f
opens form.Int = ty.outs-Int
opens form.Bool = ty.outs-Bool
opens form.Text = ty.outs-Text
opens (form.Tuple ts) = ty.outs-Tuple ts
opens (form.List t) = ty.outs-List t
opens (form.Map k t) = ty.outs-Map k t
opens (form.Ref t) = ty.outs-Ref t
opens form.Call = ty.outs-Call

-- ---- forms of another kind

no_item : (f : KindForm) → ((t : Ty) → f ≡ form.List t → ⊥) → item_at (opened f) ≡ None
no_item form.Int other = refl
no_item form.Bool other = refl
no_item form.Text other = refl
no_item (form.Tuple ts) other = refl
no_item (form.List t) other = absurd (other t refl)
no_item (form.Map k t) other = refl
no_item (form.Ref t) other = refl
no_item form.Call other = refl

no_parts : (f : KindForm) → ((ts : List Ty) → f ≡ form.Tuple ts → ⊥) → parts_at (opened f) ≡ None
no_parts form.Int other = refl
no_parts form.Bool other = refl
no_parts form.Text other = refl
no_parts (form.Tuple ts) other = absurd (other ts refl)
no_parts (form.List t) other = refl
no_parts (form.Map k t) other = refl
no_parts (form.Ref t) other = refl
no_parts form.Call other = refl

no_referred : (f : KindForm) → ((t : Ty) → f ≡ form.Ref t → ⊥) → referred_at (opened f) ≡ None
no_referred form.Int other = refl
no_referred form.Bool other = refl
no_referred form.Text other = refl
no_referred (form.Tuple ts) other = refl
no_referred (form.List t) other = refl
no_referred (form.Map k t) other = refl
no_referred (form.Ref t) other = absurd (other t refl)
no_referred form.Call other = refl

no_ref : (f : KindForm) → ((t : Ty) → f ≡ form.Ref t → ⊥) → is_ref_at (opened f) ≡ false
no_ref form.Int other = refl
no_ref form.Bool other = refl
no_ref form.Text other = refl
no_ref (form.Tuple ts) other = refl
no_ref (form.List t) other = refl
no_ref (form.Map k t) other = refl
no_ref (form.Ref t) other = absurd (other t refl)
no_ref form.Call other = refl

no_sequence : (f : KindForm) → (f ≡ form.Text → ⊥) → ((t : Ty) → f ≡ form.List t → ⊥) → is_sequence_at (opened f) ≡ false
no_sequence form.Int text list = refl
no_sequence form.Bool text list = refl
no_sequence form.Text text list = absurd (text refl)
no_sequence (form.Tuple ts) text list = refl
no_sequence (form.List t) text list = absurd (list t refl)
no_sequence (form.Map k t) text list = refl
no_sequence (form.Ref t) text list = refl
no_sequence form.Call text list = refl

no_values : (f : KindForm) → ((k : KeyTy) (t : Ty) → f ≡ form.Map k t → ⊥) → values_at (opened f) ≡ None
no_values form.Int other = refl
no_values form.Bool other = refl
no_values form.Text other = refl
no_values (form.Tuple ts) other = refl
no_values (form.List t) other = refl
no_values (form.Map k t) other = absurd (other k t refl)
no_values (form.Ref t) other = refl
no_values form.Call other = refl

numbered_get : (ts : List Ty) (place : ℕ) → (place ≡ 0 → ⊥) → numbered ts place ≡ slice_get ts (place - 1)
numbered_get ts zero some = absurd (some refl)
numbered_get ts (suc n) some = ap (slice_get ts) (omega arith)

-- ---- the parts of the type of a form

module _ (f : KindForm) (t : Ty) (is : formed f ≡ t) where
  opens_to : out-Ty t ≡ opened f
  opens_to = ap out-Ty (sym is) ∙ opens f

  pub item_some : (s : Ty) → f ≡ form.List s → item_type t ≡ Some s
  item_some s e = ap item_at (opens_to ∙ ap opened e)

  pub item_none : ((s : Ty) → f ≡ form.List s → ⊥) → item_type t ≡ None
  item_none other = ap item_at opens_to ∙ no_item f other

  pub part_none : (place : ℕ) → ((ts : List Ty) → f ≡ form.Tuple ts → ⊥) → part_type t place ≡ None
  part_none place other = ap (λ o. o >>= (λ ts. numbered ts place)) (ap parts_at opens_to ∙ no_parts f other)

  pub part_get : (place : ℕ) (ts : List Ty) → f ≡ form.Tuple ts → (place ≡ 0 → ⊥) → part_type t place ≡ slice_get ts (place - 1)
  part_get place ts e some = ap (λ d. parts_at d >>= (λ us. numbered us place)) (opens_to ∙ ap opened e) ∙ numbered_get ts place some

  pub referred_some : (s : Ty) → f ≡ form.Ref s → referred_type t ≡ Some s
  referred_some s e = ap referred_at (opens_to ∙ ap opened e)

  pub referred_none : ((s : Ty) → f ≡ form.Ref s → ⊥) → referred_type t ≡ None
  referred_none other = ap referred_at opens_to ∙ no_referred f other

  pub ref_true : (s : Ty) → f ≡ form.Ref s → is_ref t ≡ true
  ref_true s e = ap is_ref_at (opens_to ∙ ap opened e)

  pub ref_false : ((s : Ty) → f ≡ form.Ref s → ⊥) → is_ref t ≡ false
  ref_false other = ap is_ref_at opens_to ∙ no_ref f other

  pub text_true : f ≡ form.Text → is_sequence t ≡ true
  text_true e = ap is_sequence_at (opens_to ∙ ap opened e)

  pub list_true : (s : Ty) → f ≡ form.List s → is_sequence t ≡ true
  list_true s e = ap is_sequence_at (opens_to ∙ ap opened e)

  pub sequence_false : (f ≡ form.Text → ⊥) → ((s : Ty) → f ≡ form.List s → ⊥) → is_sequence t ≡ false
  sequence_false text list = ap is_sequence_at opens_to ∙ no_sequence f text list

  pub values_some : (k : KeyTy) (s : Ty) → f ≡ form.Map k s → values_type t ≡ Some s
  values_some k s e = ap values_at (opens_to ∙ ap opened e)

  pub values_none : ((k : KeyTy) (s : Ty) → f ≡ form.Map k s → ⊥) → values_type t ≡ None
  values_none other = ap values_at opens_to ∙ no_values f other
