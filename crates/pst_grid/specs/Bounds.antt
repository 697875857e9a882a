-- How many steps a search makes at most.
use Rattle.std.specs.Prelude.{◌≡◌, ◌≢◌, ℕ, ◌<◌, ◌≤◌, ◌+◌, ◌*◌, List, [], ◌∷◌, length, slice_index}
use Rattle.pst_grid.specs.Merges.{one_more, none_done}
use Rattle.pst_grid.specs.declared.steps.StepOutcome.{StepOutcome}
use Rattle.pst_grid.specs.declared.steps.StepOutcome.TheVariants.{Next}

-- a fact of each of a list
abbrev pub Each : {K : Type 0} → (K → Type 0) → List K → Type 0
Each P [] = Unit {0}
Each P (k ∷ ks) = P k × Each P ks

-- no two of a list are the same
abbrev pub HasNoRepeats : {K : Type 0} → List K → Type 0
HasNoRepeats [] = Unit {0}
HasNoRepeats (k ∷ ks) = Each (λ l. k ≢ l) ks × HasNoRepeats ks

module _ {S F : Type 0} (turn : S → ℕ → ℕ → StepOutcome S F) (lengths : List ℕ) where
  -- a word leads from one place and state to another: each letter has a command left, and its event is true
  abbrev pub Leads : List ℕ → S → List ℕ → List ℕ → S → Type 0
  Leads done s [] there t = (done ≡ there) × (s ≡ t)
  Leads done s (b ∷ u) there t =
      (slice_index done b < slice_index lengths b)
      × ((next : S) × (turn s b (slice_index done b) ≡ Next next) × Leads (one_more done b) next u there t)

  -- the place and the state are reached from the start
  abbrev pub IsReached : S → List ℕ × S → Type 0
  IsReached start p = (u : List ℕ) × Leads (none_done lengths) start u p.0 p.1

  -- some places and states that are reached from the start, of which no two are the same
  abbrev pub AreReached : S → List (List ℕ × S) → Type 0
  AreReached start places = HasNoRepeats places × Each (IsReached start) places

  -- Some states in which all branches can end, of which no two are the same.
  abbrev pub AreEnds : S → List S → Type 0
  AreEnds start ends = HasNoRepeats ends × Each (λ s. IsReached start (lengths, s)) ends

  -- A number of steps: at most as many as there are branches for each of some reached places and states, and
  -- at most as many as the rest takes for each of some states in which all branches can end.
  pub record IsBounded (most_rest : ℕ) (start : S) (steps : ℕ) : Type 0 where
    pub places : List (List ℕ × S)
    pub reached : AreReached start places
    pub ends : List S
    pub ended : AreEnds start ends
    pub within : steps ≤ length lengths * length places + most_rest * length ends
