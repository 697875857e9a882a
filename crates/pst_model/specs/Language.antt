-- The two languages: that of `model` has no maps, and that of `model2` has them.
use Rattle.std.specs.Prelude.{◌≡◌, ℕ, Bool, true, false, List, Some}
use Rattle.std.specs.List.{list_any}
use Rattle.pst_model.specs.Parts.{operation_of, types_of}
use Rattle.pst_model.specs.declared.model.Op.{Op}
use Rattle.pst_model.specs.declared.model.Source.{Source}
use Rattle.pst_value.specs.declared.ty.Ty.{Ty, fold-Ty}
use Rattle.pst_value.specs.declared.ty.Ty.TheOpen.{Ty-F}

abbrev pub layer_maps : Ty-F Bool → Bool
layer_maps Ty-F.Int = false
layer_maps Ty-F.Bool = false
layer_maps Ty-F.Text = false
layer_maps (Ty-F.Tuple parts) = list_any (λ held. held) parts
layer_maps (Ty-F.List held) = held
layer_maps (Ty-F.Map k held) = true
layer_maps (Ty-F.Ref held) = held
layer_maps Ty-F.Call = false

-- whether a map stands in a type
unfoldable pub holds_map : Ty → Bool
holds_map = fold-Ty Bool layer_maps

-- neither a parameter nor the result of an operation holds a map
pub record IsWithoutMaps (o : Op) : Type 0 where
  pub parameters : list_any holds_map (types_of o.params) ≡ false
  pub result : holds_map o.result ≡ false

-- no operation has a map in the language that has none
abbrev pub KeepsLanguage : Source → Type 0
KeepsLanguage m =
    m.has_maps ≡ false → (number : ℕ) (o : Op) → operation_of m.items number ≡ Some o → IsWithoutMaps o
