-- One level of a type, for what is asked of the whole type.
use Rattle.std.proofs.Common.{◌≡◌, ◌∙◌, ◌||◌, ℕ, Bool, true, false, refl, sym, ap}
use Rattle.pst_model.specs.Kinds.{holds_call, holds_call_at}
use Rattle.pst_model.specs.Language.{holds_map, layer_maps}
use Rattle.pst_model.specs.Levels as ty_levels
use Rattle.pst_value.specs.declared.ty.Ty.{Ty, out-Ty, roll-out-Ty, map-Ty, fold-roll-Ty}

pub level_of : (t : Ty) → ty_levels.levels t ≡ ty_levels.layer_levels (map-Ty Ty ℕ ty_levels.levels (out-Ty t))
unfolding ty_levels.levels
level_of t = ap ty_levels.levels (sym (roll-out-Ty t)) ∙ fold-roll-Ty ℕ ty_levels.layer_levels (out-Ty t)

pub call_of : (t : Ty) → holds_call t ≡ holds_call_at (map-Ty Ty Bool holds_call (out-Ty t))
unfolding holds_call
call_of t = ap holds_call (sym (roll-out-Ty t)) ∙ fold-roll-Ty Bool holds_call_at (out-Ty t)

pub maps_of : (t : Ty) → holds_map t ≡ layer_maps (map-Ty Ty Bool holds_map (out-Ty t))
unfolding holds_map
maps_of t = ap holds_map (sym (roll-out-Ty t)) ∙ fold-roll-Ty Bool layer_maps (out-Ty t)

pub neither : (x y : Bool) → (x || y) ≡ false → (x ≡ false) × (y ≡ false)
neither true y h = absurd (cc)
neither false y h = (refl, h)

pub true_is_no_false : true ≡ false → ⊥
true_is_no_false h = absurd (cc)
