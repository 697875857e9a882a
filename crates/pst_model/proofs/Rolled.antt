-- One level of a value against a type.
use Rattle.std.proofs.Common.{◌≡◌, Bool, List, ap}
use Rattle.pst_value.specs.Fits.{fits_level, fits_step, fits}
use Rattle.pst_value.specs.declared.ty.Ty.{Ty, out-Ty}
use Rattle.pst_value.specs.declared.value.Value.{Value, roll-Value, fold-roll-Value, map-Value}
use Rattle.pst_value.specs.declared.value.Value.TheOpen.{Value-F}

module _ (free vars : List Ty) (ops : List (List Ty)) where
  pub fits-roll : (d : Value-F Value) (t : Ty) → fits free vars ops (roll-Value d) t
      ≡ fits_level free vars ops (map-Value Value (Ty → Bool) (fits free vars ops) d) (out-Ty t)
  unfolding fits
  fits-roll d t = ap (λ f. f t) (fold-roll-Value (Ty → Bool) (fits_step free vars ops) d)
