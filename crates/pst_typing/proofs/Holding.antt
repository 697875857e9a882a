-- `holds_ref_or_call` and `holds_call` at each form of a type.
use Rattle.std.proofs.Common.{◌≡◌, ℕ, zero, suc, ◌<◌, length, get_or, arith, Bool, true, false, ◌||◌, List, [], ◌∷◌, map, refl, sym, ap, ◌∙◌}
use Rattle.std.specs.List.{list_any}
use Rattle.pst_model.specs.Kinds.{holds_ref_or_call, holds_ref_at, holds_call, holds_call_at}
use Rattle.pst_model.specs.Parts.{types_of}
use Rattle.pst_model.specs.declared.model.Param.{Param}
use Rattle.pst_value.proofs.Holding.{list_any-map}
use Rattle.pst_value.specs.declared.key.KeyTy.{KeyTy}
use Rattle.pst_value.specs.declared.ty.Ty.{Ty, Int, Bool as Truth, Text, Tuple, List as ListOf, Map as MapOf, Ref, Call, fold-Ty, fold-roll-Ty}
use Rattle.pst_value.specs.declared.ty.Ty.TheOpen.{Ty-F}
use Rattle.pst_value.specs.declared.ty.Ty.TheVariants.{rolls-Int, rolls-Bool, rolls-Text, rolls-Tuple, rolls-List, rolls-Map, rolls-Ref, rolls-Call}

module _ (A : Type 0) (step : Ty-F A → A) where
  fold-Int : fold-Ty A step Int ≡ step Ty-F.Int
  fold-Int = ap (fold-Ty A step) (sym rolls-Int) ∙ fold-roll-Ty A step Ty-F.Int

  fold-Truth : fold-Ty A step Truth ≡ step Ty-F.Bool
  fold-Truth = ap (fold-Ty A step) (sym rolls-Bool) ∙ fold-roll-Ty A step Ty-F.Bool

  fold-Text : fold-Ty A step Text ≡ step Ty-F.Text
  fold-Text = ap (fold-Ty A step) (sym rolls-Text) ∙ fold-roll-Ty A step Ty-F.Text

  fold-Tuple : (ts : List Ty) → fold-Ty A step (Tuple ts) ≡ step (Ty-F.Tuple (map (fold-Ty A step) ts))
  fold-Tuple ts = ap (fold-Ty A step) (sym (rolls-Tuple ts)) ∙ fold-roll-Ty A step (Ty-F.Tuple ts)

  fold-ListOf : (t : Ty) → fold-Ty A step (ListOf t) ≡ step (Ty-F.List (fold-Ty A step t))
  fold-ListOf t = ap (fold-Ty A step) (sym (rolls-List t)) ∙ fold-roll-Ty A step (Ty-F.List t)

  fold-MapOf : (k : KeyTy) (t : Ty) → fold-Ty A step (MapOf k t) ≡ step (Ty-F.Map k (fold-Ty A step t))
  fold-MapOf k t = ap (fold-Ty A step) (sym (rolls-Map k t)) ∙ fold-roll-Ty A step (Ty-F.Map k t)

  fold-Ref : (t : Ty) → fold-Ty A step (Ref t) ≡ step (Ty-F.Ref (fold-Ty A step t))
  fold-Ref t = ap (fold-Ty A step) (sym (rolls-Ref t)) ∙ fold-roll-Ty A step (Ty-F.Ref t)

  fold-Call : fold-Ty A step Call ≡ step Ty-F.Call
  fold-Call = ap (fold-Ty A step) (sym rolls-Call) ∙ fold-roll-Ty A step Ty-F.Call

pub holds_ref_or_call-Int : holds_ref_or_call Int ≡ false
unfolding holds_ref_or_call
holds_ref_or_call-Int = fold-Int Bool holds_ref_at

pub holds_ref_or_call-Truth : holds_ref_or_call Truth ≡ false
unfolding holds_ref_or_call
holds_ref_or_call-Truth = fold-Truth Bool holds_ref_at

pub holds_ref_or_call-Text : holds_ref_or_call Text ≡ false
unfolding holds_ref_or_call
holds_ref_or_call-Text = fold-Text Bool holds_ref_at

pub holds_ref_or_call-Tuple : (ts : List Ty) → holds_ref_or_call (Tuple ts) ≡ list_any holds_ref_or_call ts
unfolding holds_ref_or_call
holds_ref_or_call-Tuple ts = fold-Tuple Bool holds_ref_at ts ∙ list_any-map holds_ref_or_call ts

pub holds_ref_or_call-ListOf : (t : Ty) → holds_ref_or_call (ListOf t) ≡ holds_ref_or_call t
unfolding holds_ref_or_call
holds_ref_or_call-ListOf t = fold-ListOf Bool holds_ref_at t

pub holds_ref_or_call-MapOf : (k : KeyTy) (t : Ty) → holds_ref_or_call (MapOf k t) ≡ holds_ref_or_call t
unfolding holds_ref_or_call
holds_ref_or_call-MapOf k t = fold-MapOf Bool holds_ref_at k t

pub holds_ref_or_call-Ref : (t : Ty) → holds_ref_or_call (Ref t) ≡ true
unfolding holds_ref_or_call
holds_ref_or_call-Ref t = fold-Ref Bool holds_ref_at t

pub holds_ref_or_call-Call : holds_ref_or_call Call ≡ true
unfolding holds_ref_or_call
holds_ref_or_call-Call = fold-Call Bool holds_ref_at

pub holds_call-Int : holds_call Int ≡ false
unfolding holds_call
holds_call-Int = fold-Int Bool holds_call_at

pub holds_call-Truth : holds_call Truth ≡ false
unfolding holds_call
holds_call-Truth = fold-Truth Bool holds_call_at

pub holds_call-Text : holds_call Text ≡ false
unfolding holds_call
holds_call-Text = fold-Text Bool holds_call_at

pub holds_call-Tuple : (ts : List Ty) → holds_call (Tuple ts) ≡ list_any holds_call ts
unfolding holds_call
holds_call-Tuple ts = fold-Tuple Bool holds_call_at ts ∙ list_any-map holds_call ts

pub holds_call-ListOf : (t : Ty) → holds_call (ListOf t) ≡ holds_call t
unfolding holds_call
holds_call-ListOf t = fold-ListOf Bool holds_call_at t

pub holds_call-MapOf : (k : KeyTy) (t : Ty) → holds_call (MapOf k t) ≡ holds_call t
unfolding holds_call
holds_call-MapOf k t = fold-MapOf Bool holds_call_at k t

pub holds_call-Ref : (t : Ty) → holds_call (Ref t) ≡ holds_call t
unfolding holds_call
holds_call-Ref t = fold-Ref Bool holds_call_at t

pub holds_call-Call : holds_call Call ≡ true
unfolding holds_call
holds_call-Call = fold-Call Bool holds_call_at

pub ruleset refs = (holds_ref_or_call-Int, holds_ref_or_call-Truth, holds_ref_or_call-Text, holds_ref_or_call-Tuple, holds_ref_or_call-ListOf, holds_ref_or_call-MapOf, holds_ref_or_call-Ref, holds_ref_or_call-Call)

pub ruleset calls = (holds_call-Int, holds_call-Truth, holds_call-Text, holds_call-Tuple, holds_call-ListOf, holds_call-MapOf, holds_call-Ref, holds_call-Call)

or_true : (a b : Bool) → b ≡ true → (a || b) ≡ true
or_true true b h = refl
or_true false b h = h

-- a parameter whose type holds a call
pub calls_among : (ps : List Param) (i : ℕ) (d : Param) → i < length ps → holds_call (get_or ps i d).ty ≡ true → list_any holds_call (types_of ps) ≡ true
calls_among [] i d h k = absurd (omega arith)
calls_among (p ∷ ps) zero d h k = ap (λ b. b || list_any holds_call (types_of ps)) k
calls_among (p ∷ ps) (suc i) d h k = or_true (holds_call p.ty) _ (calls_among ps i d (omega arith) k)
