-- What a step is asked, and what it answers.
use Rattle.std.specs.Prelude.{ℕ, ◌<◌, List, slice_index}
use Rattle.pst_grid.specs.declared.steps.Ending.{Ending}
use Rattle.pst_grid.specs.declared.steps.Ending.TheVariants.{AllTrue, StopsAt}
use Rattle.pst_grid.specs.declared.steps.StepOutcome.{StepOutcome}
use Rattle.pst_grid.specs.declared.steps.StepOutcome.TheVariants.{Next, Stop}

-- a step may be asked for each command of branches of these lengths
abbrev pub AreCommands : (ℕ → ℕ → Type 0) → List ℕ → Type 0
AreCommands is_command lengths = (b i : ℕ) → i < slice_index lengths b → is_command b i

-- a fact of the next state, if there is one
abbrev pub OnNext : {S F : Type 0} → StepOutcome S F → (S → Type 0) → Type 0
OnNext (Next s) P = P s
OnNext (Stop why) P = Unit {0}

-- a fact of the number of true events before a stop, if there is one
abbrev pub OnStop : {F : Type 0} → Ending F → (ℕ → Type 0) → Type 0
OnStop AllTrue P = Unit {0}
OnStop (StopsAt n why) P = P n
