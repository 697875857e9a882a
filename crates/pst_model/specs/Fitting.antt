-- Values that fit the types of a model: its state, the arguments and the result of an operation.
use Rattle.std.specs.Prelude.{ℕ, Bool, false, List, map, Option, Some, None}
use Rattle.pst_model.specs.Parts.{state_of, operation_of, parameters_of, types_of}
use Rattle.pst_model.specs.declared.model.Op.{Op}
use Rattle.pst_model.specs.declared.model.Source.{Source}
use Rattle.pst_value.specs.Fits.{fits, fit_each}
use Rattle.pst_value.specs.declared.ty.Ty.{Ty}
use Rattle.pst_value.specs.declared.ty.Ty.TheVariants as ty
use Rattle.pst_value.specs.declared.value.Value.{Value}

-- Throughout, `free` has the result types of the commands whose variables may stand open in a value, and
-- `vars` those of the commands whose results may stand in it.

-- whether a value fits a type over the operations of the model
abbrev pub fits_in : Source → (free vars : List Ty) → Value → Ty → Bool
fits_in m free vars v t = fits free vars (parameters_of m.items) v t

abbrev pub is_state_in : (m : Source) (free vars : List Ty) → Value → Option Ty → Bool
is_state_in m free vars v None = false
is_state_in m free vars v (Some t) = fits_in m free vars v t

-- whether a value fits the state's type
unfoldable pub is_state : Source → (free vars : List Ty) → Value → Bool
is_state m free vars v = is_state_in m free vars v (state_of m.items)

abbrev pub args_fit_in : (m : Source) (free vars : List Ty) → Option Op → List Value → Bool
args_fit_in m free vars None args = false
args_fit_in m free vars (Some o) args =
    fit_each (map (fits free vars (parameters_of m.items)) args) (types_of o.params)

-- whether there is the operation, and the arguments fit its parameters' types
unfoldable pub args_fit : Source → (free vars : List Ty) → ℕ → List Value → Bool
args_fit m free vars op args = args_fit_in m free vars (operation_of m.items op) args

abbrev pub result_fits_in : (m : Source) (free vars : List Ty) → Option Op → Value → Bool
result_fits_in m free vars None r = false
result_fits_in m free vars (Some o) r = fits_in m free vars r o.result

-- whether a value fits the operation's result type
unfoldable pub result_fits : Source → (free vars : List Ty) → ℕ → Value → Bool
result_fits m free vars op r = result_fits_in m free vars (operation_of m.items op) r

abbrev pub ref_fits_in : (m : Source) (free vars : List Ty) → Option Op → Value → Bool
ref_fits_in m free vars None r = false
ref_fits_in m free vars (Some o) r = fits_in m free vars r (ty.Ref o.result)

-- whether a value refers to a result of the operation
unfoldable pub ref_fits : Source → (free vars : List Ty) → ℕ → Value → Bool
ref_fits m free vars op r = ref_fits_in m free vars (operation_of m.items op) r
