-- A type that was read has no more levels than there was room.
use Rattle.std.proofs.Common.{◌≡◌, ◌≤◌, ℕ, Bool, zero, suc, List, [], ◌∷◌, map, Ok, Err, sym, ap, ◌∙◌, subst, arith}
use Rattle.std.proofs.Math.Nat.{max-le}
use Rattle.pst_model.specs.Levels.{levels, layer_levels, greatest}
use Rattle.pst_sexpr.specs.declared.form.Form.{Form}
use Rattle.pst_syntax.specs.declared.fault.FaultKind.TheVariants.{OverLimit}
use Rattle.pst_syntax.specs.Reading.{Read, ◌>>=◌, each, are_few, ty_of, ty_parts}
use Rattle.pst_syntax.specs.Shape.{TyShape, IntType, BoolType, TextType, CallType, TupleType, ListType, MapType, RefType, ty_shape}
use Rattle.pst_syntax.proofs.Complete.{bind_ok, known_ok, within_ok, okay}
use Rattle.pst_value.specs.declared.key.KeyTy.{KeyTy}
use Rattle.pst_value.specs.declared.ty.Ty.{Ty, Ty-F, fold-roll-Ty}
use Rattle.pst_value.specs.declared.ty.Ty as ty
use Rattle.pst_value.specs.declared.ty.Ty.TheVariants as tys

layers : (d : Ty-F Ty) → levels (ty.roll-Ty d) ≡ layer_levels (ty.map-Ty Ty ℕ levels d)
unfolding levels
layers d = fold-roll-Ty ℕ layer_levels d

levels_int : levels ty.Int ≡ 1
levels_int = ap levels (sym tys.rolls-Int) ∙ layers Ty-F.Int

levels_bool : levels ty.Bool ≡ 1
levels_bool = ap levels (sym tys.rolls-Bool) ∙ layers Ty-F.Bool

levels_text : levels ty.Text ≡ 1
levels_text = ap levels (sym tys.rolls-Text) ∙ layers Ty-F.Text

levels_call : levels ty.Call ≡ 1
levels_call = ap levels (sym tys.rolls-Call) ∙ layers Ty-F.Call

levels_tuple : (ts : List Ty) → levels (ty.Tuple ts) ≡ suc (greatest (map levels ts))
levels_tuple ts = ap levels (sym (tys.rolls-Tuple ts)) ∙ layers (Ty-F.Tuple ts)

levels_list : (t : Ty) → levels (ty.List t) ≡ suc (levels t)
levels_list t = ap levels (sym (tys.rolls-List t)) ∙ layers (Ty-F.List t)

levels_map : (k : KeyTy) (t : Ty) → levels (ty.Map k t) ≡ suc (levels t)
levels_map k t = ap levels (sym (tys.rolls-Map k t)) ∙ layers (Ty-F.Map k t)

levels_ref : (t : Ty) → levels (ty.Ref t) ≡ suc (levels t)
levels_ref t = ap levels (sym (tys.rolls-Ref t)) ∙ layers (Ty-F.Ref t)

-- what is read of a tree is no deeper than the room
abbrev pub Shallow : (Form → Read Ty) → ℕ → Type 0
Shallow read room = (form : Form) (t : Ty) → read form ≡ Ok t → levels t ≤ room

each_shallow : (read : Form → Read Ty) (room : ℕ) → Shallow read room → (forms : List Form) (ts : List Ty) → each read forms ≡ Ok ts → greatest (map levels ts) ≤ room
each_shallow read room h [] ts e = let r : [] ≡ ts = cc in subst (λ ts. greatest (map levels ts) ≤ room) r (omega arith)
each_shallow read room h (form ∷ forms) ts e =
    let p = bind_ok (read form) (λ t. each read forms >>= (λ ts. Ok (t ∷ ts))) ts e in
    let q = bind_ok (each read forms) (λ ts. Ok (p.0 ∷ ts)) ts p.2 in
    let r : p.0 ∷ q.0 ≡ ts = okay (p.0 ∷ q.0) ts q.2 in
    subst (λ ts. greatest (map levels ts) ≤ room) r (max-le (h form p.0 p.1) (each_shallow read room h forms q.0 q.1))

one : (room : ℕ) (t u : Ty) → t ≡ u → levels t ≡ 1 → levels u ≤ suc room
one room t u r e = subst (λ t. levels t ≤ suc room) r (omega (arith, e))

above : (room n : ℕ) (t u : Ty) → t ≡ u → levels t ≡ suc n → n ≤ room → levels u ≤ suc room
above room n t u r e h = subst (λ t. levels t ≤ suc room) r (omega (arith, e, h))

parts_shallow : (read : Form → Read Ty) (room : ℕ) → Shallow read room → (shape : TyShape) (t : Ty) → ty_parts read shape ≡ Ok t → levels t ≤ suc room
parts_shallow read room h IntType t e = one room ty.Int t (okay ty.Int t e) levels_int
parts_shallow read room h BoolType t e = one room ty.Bool t (okay ty.Bool t e) levels_bool
parts_shallow read room h TextType t e = one room ty.Text t (okay ty.Text t e) levels_text
parts_shallow read room h CallType t e = one room ty.Call t (okay ty.Call t e) levels_call
parts_shallow read room h (TupleType forms) t e =
    let p = within_ok (are_few forms) (each read forms >>= (λ ts. Ok (ty.Tuple ts))) t e in
    let q = bind_ok (each read forms) (λ ts. Ok (ty.Tuple ts)) t p.1 in
    above room (greatest (map levels q.0)) (ty.Tuple q.0) t (okay (ty.Tuple q.0) t q.2) (levels_tuple q.0) (each_shallow read room h forms q.0 q.1)
parts_shallow read room h (ListType form) t e =
    let q = bind_ok (read form) (λ a. Ok (ty.List a)) t e in
    above room (levels q.0) (ty.List q.0) t (okay (ty.List q.0) t q.2) (levels_list q.0) (h form q.0 q.1)
parts_shallow read room h (MapType k form) t e =
    let q = bind_ok (read form) (λ a. Ok (ty.Map k a)) t e in
    above room (levels q.0) (ty.Map k q.0) t (okay (ty.Map k q.0) t q.2) (levels_map k q.0) (h form q.0 q.1)
parts_shallow read room h (RefType form) t e =
    let q = bind_ok (read form) (λ a. Ok (ty.Ref a)) t e in
    above room (levels q.0) (ty.Ref q.0) t (okay (ty.Ref q.0) t q.2) (levels_ref q.0) (h form q.0 q.1)

-- a type is no deeper than the room that it was read with
pub ty_shallow : (maps : Bool) (room : ℕ) → Shallow (ty_of maps room) room
unfolding ty_of
ty_shallow maps zero form t e =
    let p = known_ok (ty_shape maps form) (λ shape. Err OverLimit) t e in
    absurd (let q : Err OverLimit ≡ Ok t = p.2 in cc)
ty_shallow maps (suc room) form t e =
    let p = known_ok (ty_shape maps form) (ty_parts (ty_of maps room)) t e in
    parts_shallow (ty_of maps room) room (ty_shallow maps room) p.0 t p.2
