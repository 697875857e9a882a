-- What a line answers.
use Rattle.std.specs.Prelude.{◌≡◌, ℕ, nat_eq, Bool, true, false, List, Option, Some, slice_get, codes}
use Rattle.std.specs.List.{starts_with}
use Rattle.json.specs.Json.{Json, document}
use Rattle.json.specs.Strict.{HasUniqueKeys}
use Rattle.pst_clients.specs.declared.protocol.ClientAnswer.{ClientAnswer}
use Rattle.pst_clients.specs.declared.protocol.ClientAnswer.TheVariants as answer
use Rattle.pst_json_runs.specs.Reading.{value_in}
use Rattle.pst_system.specs.declared.system.RealCall.{RealCall}
use Rattle.pst_value.specs.declared.ty.Ty.{Ty}
use Rattle.pst_value.specs.declared.value.Value.{Value}

-- the line spells the value, where the type is wanted
abbrev pub Spells : Option Ty → List ℕ → Value → Type 0
Spells t line v = (j : Json) × (document line ≡ Some j) × HasUniqueKeys j × (value_in t j ≡ Some v)

-- the line says that the call failed
abbrev pub says_failed : List ℕ → Bool
says_failed line = starts_with nat_eq line (codes "failed")

-- the line says that nobody knows whether the call took effect
abbrev pub says_unknown : List ℕ → Bool
says_unknown line = starts_with nat_eq line (codes "unknown")

-- what a line answers to a call whose result is wanted to have the type
abbrev pub IsAnswer : Option Ty → List ℕ → ClientAnswer → Type 0
IsAnswer t line (answer.Value v) = Spells t line v
IsAnswer t line answer.Failed = says_failed line ≡ true
IsAnswer t line answer.Unknown = (says_failed line ≡ false) × (says_unknown line ≡ true)
IsAnswer t line answer.NoValue =
    (says_failed line ≡ false) × (says_unknown line ≡ false) × ((v : Value) → ¬ Spells t line v)

-- a line that may be given spells the value, at the result type of the operation that is called, if there is one
abbrev pub Answered : (List ℕ → Type 0) → List Ty → RealCall → Value → Type 0
Answered may_give results c v = (line : List ℕ) × may_give line × Spells (slice_get results c.op) line v
