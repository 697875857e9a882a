-- What the check of a model answers.
use Rattle.std.specs.Prelude.{◌≡◌, Result, Ok, Err, ⊤}
use Rattle.pst_model.specs.WellTyped.{WellModel}
use Rattle.pst_model.specs.declared.model.Source.{Source}
use Rattle.pst_typing.specs.Least.{IsIll}
use Rattle.pst_typing.specs.declared.loading.TypeFault.{TypeFault}
use Rattle.pst_typing.specs.declared.loading.TypeFault.TheVariants.{Item, NoMemory}

-- the fault names the least item that is not well typed, unless memory was refused
abbrev pub Refuses : Source → TypeFault → Type 0
Refuses source (Item number) = IsIll source number
Refuses source NoMemory = ⊤

-- the model, which is well typed, or the model back and its fault
abbrev pub Checks : Source → Result Source (Source × TypeFault) → Type 0
Checks source (Ok typed) = (typed ≡ source) × WellModel source
Checks source (Err fault) = (fault.0 ≡ source) × Refuses source fault.1
