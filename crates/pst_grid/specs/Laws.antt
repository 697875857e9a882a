-- Laws of runs and of bounds.
use Rattle.std.specs.Prelude.{◌≡◌, ◌↔◌, ℕ, suc, ◌+◌, ◌*◌, ◌≤◌, List, [], ◌∷◌, length, map, slice_index}
use Rattle.pst_grid.specs.Bounds.{IsBounded}
use Rattle.pst_grid.specs.Merges.{run, after, one_more, nothing_follows}
use Rattle.pst_grid.specs.declared.steps.Ending.{Ending}
use Rattle.pst_grid.specs.declared.steps.Ending.TheVariants.{AllTrue}
use Rattle.pst_grid.specs.declared.steps.StepOutcome.{StepOutcome}
use Rattle.pst_grid.specs.declared.steps.StepOutcome.TheVariants.{Next}

-- the product of a list of numbers
abbrev pub product : List ℕ → ℕ
product [] = 1
product (n ∷ ns) = n * product ns

module _ {S F : Type 0} (turn : S → ℕ → ℕ → StepOutcome S F) where
  -- the run of a word from a state, and nothing else: each letter takes the next command of its branch
  abbrev pub run_alone : List ℕ → S → List ℕ → Ending F
  run_alone done s [] = AllTrue
  run_alone done s (b ∷ w) =
      after (turn s b (slice_index done b)) (λ next. run_alone (one_more done b) next w)

  -- the event of each letter is true
  abbrev pub EventsAreTrue : List ℕ → S → List ℕ → Type 0
  EventsAreTrue done s [] = Unit {0}
  EventsAreTrue done s (b ∷ w) =
      (next : S) × (turn s b (slice_index done b) ≡ Next next) × EventsAreTrue (one_more done b) next w

  -- where nothing follows the branches, the run of a word is its run alone
  abbrev pub RunsAlone : (rest : S → Ending F) → Type 0
  RunsAlone rest = ((s : S) → rest s ≡ nothing_follows s)
      → (done : List ℕ) (s : S) (word : List ℕ) → run turn rest done s word ≡ run_alone done s word

  -- and it is all true just where the event of each letter is
  abbrev pub IsTrueByEvents : (rest : S → Ending F) → Type 0
  IsTrueByEvents rest = ((s : S) → rest s ≡ nothing_follows s)
      → (done : List ℕ) (s : S) (word : List ℕ)
      → (run turn rest done s word ≡ AllTrue) ↔ EventsAreTrue done s word

  -- no step from this state changes it
  abbrev pub NeverChanges : S → Type 0
  NeverChanges s = (b i : ℕ) (next : S) → turn s b i ≡ Next next → next ≡ s

  -- Where the state never changes, a search makes few steps: as many as there are branches for each place,
  -- and those of the rest once. The places are as many as the product of all lengths plus one.
  abbrev pub MakesFewSteps : Type 0
  MakesFewSteps = (lengths : List ℕ) (most_rest : ℕ) (start : S) (steps : ℕ)
      → NeverChanges start → IsBounded turn lengths most_rest start steps
      → steps ≤ length lengths * product (map suc lengths) + most_rest
