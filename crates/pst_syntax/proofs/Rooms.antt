-- Reading with one more level of room.
use Rattle.std.proofs.Common.{◌≡◌, ◌≢◌, ℕ, Bool, zero, suc, ◌-◌, Some, None, Err, refl, ap, ◌∙◌, arith}
use Rattle.pst_sexpr.specs.declared.form.Form.{Form}
use Rattle.pst_syntax.specs.declared.fault.FaultKind.TheVariants.{UnknownForm, OverLimit}
use Rattle.pst_syntax.specs.Shape.{Shape, TyShape, shape_of, ty_shape}
use Rattle.pst_syntax.specs.Reading.{ty_of, ty_parts, expr_of, expr_parts, known}
use Rattle.pst_syntax.specs.Limits.{ty_room}

pub ty_unknown : (maps : Bool) (room : ℕ) (f : Form) → ty_shape maps f ≡ None → ty_of maps room f ≡ Err UnknownForm
unfolding ty_of
ty_unknown maps zero f h = ap (λ s. known s (λ s. Err OverLimit)) h
ty_unknown maps (suc n) f h = ap (λ s. known s (ty_parts (ty_of maps n))) h

pub ty_full : (maps : Bool) (f : Form) (s : TyShape) → ty_shape maps f ≡ Some s → ty_of maps 0 f ≡ Err OverLimit
unfolding ty_of
ty_full maps f s h = ap (λ s. known s (λ s. Err OverLimit)) h

pub ty_inside : (maps : Bool) (room : ℕ) (f : Form) (s : TyShape) → room ≢ 0 → ty_shape maps f ≡ Some s → ty_of maps room f ≡ ty_parts (ty_of maps (room - 1)) s
unfolding ty_of
ty_inside maps zero f s ne h = absurd (ne refl)
ty_inside maps (suc n) f s ne h = ap (λ s. known s (ty_parts (ty_of maps n))) h ∙ ap (λ k. ty_parts (ty_of maps k) s) (let e : n ≡ suc n - 1 = omega arith in e)

pub expr_unknown : (maps : Bool) (room : ℕ) (f : Form) → shape_of maps f ≡ None → expr_of maps room f ≡ Err UnknownForm
unfolding expr_of
expr_unknown maps zero f h = ap (λ s. known s (λ s. Err OverLimit)) h
expr_unknown maps (suc n) f h = ap (λ s. known s (expr_parts maps (ty_of maps ty_room) (expr_of maps n))) h

pub expr_full : (maps : Bool) (f : Form) (s : Shape) → shape_of maps f ≡ Some s → expr_of maps 0 f ≡ Err OverLimit
unfolding expr_of
expr_full maps f s h = ap (λ s. known s (λ s. Err OverLimit)) h

pub expr_inside : (maps : Bool) (room : ℕ) (f : Form) (s : Shape) → room ≢ 0 → shape_of maps f ≡ Some s → expr_of maps room f ≡ expr_parts maps (ty_of maps ty_room) (expr_of maps (room - 1)) s
unfolding expr_of
expr_inside maps zero f s ne h = absurd (ne refl)
expr_inside maps (suc n) f s ne h = ap (λ s. known s (expr_parts maps (ty_of maps ty_room) (expr_of maps n))) h ∙ ap (λ k. expr_parts maps (ty_of maps ty_room) (expr_of maps k) s) (let e : n ≡ suc n - 1 = omega arith in e)

pub ruleset ty_rooms = (ty_unknown, ty_full, ty_inside)

pub ruleset expr_rooms = (expr_unknown, expr_full, expr_inside)
