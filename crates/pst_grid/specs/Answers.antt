-- What `some` and `every` answer, over all merges.
use Rattle.std.specs.Prelude.{◌≡◌, ◌≢◌, ℕ, ◌≤◌, List}
use Rattle.pst_grid.specs.Merges.{IsMerge, IsLeast, run, none_done}
use Rattle.pst_grid.specs.declared.steps.Ending.{Ending}
use Rattle.pst_grid.specs.declared.steps.Ending.TheVariants.{AllTrue, StopsAt}
use Rattle.pst_grid.specs.declared.steps.StopReason.TheVariants.{False, Fault}
use Rattle.pst_grid.specs.declared.steps.StepOutcome.{StepOutcome}
use Rattle.pst_grid.specs.declared.steps.SomeAnswer.{SomeAnswer}
use Rattle.pst_grid.specs.declared.steps.SomeAnswer.TheVariants.{Found, Faulted, Nothing}
use Rattle.pst_grid.specs.declared.steps.EveryAnswer.{EveryAnswer}
use Rattle.pst_grid.specs.declared.steps.EveryAnswer.TheVariants.{All, Not}

module _ {S F : Type 0} (turn : S → ℕ → ℕ → StepOutcome S F) (rest : S → Ending F)
    (lengths : List ℕ) (start : S) where
  -- the ending of a word's run from the start, and of what follows it
  abbrev pub ending : List ℕ → Ending F
  ending word = run turn rest (none_done lengths) start word

  module _ (W : List ℕ → Type 0) where
    -- a word of W whose run ends so
    abbrev pub EndsAmong : Ending F → List ℕ → Type 0
    EndsAmong e word = W word × (ending word ≡ e)

    -- a word of W whose run faults
    abbrev pub FaultsAmong : List ℕ → Type 0
    FaultsAmong word = W word × ((n : ℕ) × (f : F) × (ending word ≡ StopsAt n (Fault f)))

    -- a word of W whose run is not all true
    abbrev pub FailsToBeTrueAmong : List ℕ → Type 0
    FailsToBeTrueAmong word = W word × (ending word ≢ AllTrue)

    -- found: the least word of W that is all true
    -- faulted: no word of W is all true, and this is the least that faults, with its place and its fault
    -- nothing: no word of W is all true and none faults, this is the least with so many true events before a false
    -- one, and none has more
    abbrev pub IsAnswerAmong : SomeAnswer F → Type 0
    IsAnswerAmong (Found word) = IsLeast (EndsAmong AllTrue) word.items
    IsAnswerAmong (Faulted word at fault) =
        ((v : List ℕ) → EndsAmong AllTrue v → ⊥)
        × (IsLeast FaultsAmong word.items × (ending word.items ≡ StopsAt at (Fault fault)))
    IsAnswerAmong (Nothing far word) =
        ((v : List ℕ) → EndsAmong AllTrue v → ⊥)
        × ((v : List ℕ) → FaultsAmong v → ⊥)
        × IsLeast (EndsAmong (StopsAt far False)) word.items
        × ((v : List ℕ) (n : ℕ) → EndsAmong (StopsAt n False) v → n ≤ far)

    -- all: each word of W is all true
    -- not: the least word of W that is not all true, with the place where it stops, and why
    abbrev pub IsEveryAnswerAmong : EveryAnswer F → Type 0
    IsEveryAnswerAmong All = (v : List ℕ) → W v → ending v ≡ AllTrue
    IsEveryAnswerAmong (Not word at why) =
        IsLeast FailsToBeTrueAmong word.items × (ending word.items ≡ StopsAt at why)

  -- and so it is among all merges
  abbrev pub Ends : Ending F → List ℕ → Type 0
  Ends = EndsAmong (IsMerge lengths)

  abbrev pub Faults : List ℕ → Type 0
  Faults = FaultsAmong (IsMerge lengths)

  abbrev pub FailsToBeTrue : List ℕ → Type 0
  FailsToBeTrue = FailsToBeTrueAmong (IsMerge lengths)

  abbrev pub IsAnswer : SomeAnswer F → Type 0
  IsAnswer = IsAnswerAmong (IsMerge lengths)

  abbrev pub IsEveryAnswer : EveryAnswer F → Type 0
  IsEveryAnswer = IsEveryAnswerAmong (IsMerge lengths)
