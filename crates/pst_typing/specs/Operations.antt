-- The name, the result type and the parameters of an operation, by its number from 0.
use Rattle.std.specs.Prelude.{ℕ, List, Option}
use Rattle.std.specs.Option.{option_map}
use Rattle.pst_model.specs.Parts.{Name, operation_of}
use Rattle.pst_model.specs.declared.model.Item.{Item}
use Rattle.pst_model.specs.declared.model.Param.{Param}
use Rattle.pst_value.specs.declared.ty.Ty.{Ty}

abbrev pub operation_name : List Item → ℕ → Option Name
operation_name items number = option_map (λ o. o.name) (operation_of items number)

abbrev pub operation_result : List Item → ℕ → Option Ty
operation_result items number = option_map (λ o. o.result) (operation_of items number)

abbrev pub operation_parameters : List Item → ℕ → Option (List Param)
operation_parameters items number = option_map (λ o. o.params) (operation_of items number)
