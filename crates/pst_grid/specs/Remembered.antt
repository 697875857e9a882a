-- What a search that remembers knows of the positions that it has searched from.
use Rattle.std.specs.Prelude.{◌≡◌, ℕ, ◌+◌, ◌*◌, ◌<◌, ◌≤◌, List, [], ◌∷◌, ◌++◌, ◌⊎◌, length, sum, None, Bool, MatchBool, bytes_eq, if◌then◌else◌}
use Rattle.pst_grid.specs.declared.steps.StopReason.TheVariants.{False}
use Rattle.pst_grid.specs.declared.steps.Ending.{Ending}
use Rattle.pst_grid.specs.declared.steps.Ending.TheVariants.{StopsAt}
use Rattle.pst_grid.specs.declared.steps.StepOutcome.{StepOutcome}
use Rattle.pst_grid.specs.declared.search.FirstFailures.{FirstFailures}
use Rattle.pst_grid.specs.declared.search.Goal.{Goal}
use Rattle.pst_grid.specs.declared.search.SearchProgress.{SearchProgress}
use Rattle.pst_grid.specs.declared.position.Position.{Position}
use Rattle.pst_grid.specs.Bounds.{Each, Leads}
use Rattle.pst_grid.specs.Orders.{Extends}
use Rattle.pst_grid.specs.Covered.{FaultsOn, IsLeastSought, HasCovered}
use Rattle.pst_grid.specs.Kept.{reach, IsSought}
use Rattle.pst_grid.specs.Merges.{run}

-- a fact of each position at which so many commands are done
abbrev pub EachFrom : {S : Type 0} → ℕ → (Position S → Type 0) → List (Position S) → Type 0
EachFrom depth P keys = Each (λ k. depth ≤ sum k.done → P k) keys

-- the position of a place and a state is among those that are remembered
abbrev pub IsRemembered : {S : Type 0} → List ℕ → S → List (Position S) → Type 0
IsRemembered done s [] = ⊥
IsRemembered done s (k ∷ ks) = ((k.done ≡ done) × (k.state ≡ s)) ⊎ IsRemembered done s ks

module _ {S F : Type 0} (turn : S → ℕ → ℕ → StepOutcome S F) (rest : S → Ending F)
    (goal : Goal) (order : List ℕ → ℕ → Bool) (lengths : List ℕ) where
  -- all that the words behind this place and state could give is in what the search has seen
  pub record IsAccounted (best : FirstFailures F) (done : List ℕ) (s : S) : Type 0 where
    pub none_sought : (w : List ℕ) → Extends order lengths done w → IsSought goal (run turn rest done s w) → ⊥
    pub none_faults :
        best.fault ≡ None → (w : List ℕ) → Extends order lengths done w → FaultsOn turn rest done s w → ⊥
    pub bounds : (w : List ℕ) (n : ℕ) →
        Extends order lengths done w → run turn rest done s w ≡ StopsAt n False
        → sum done + n < reach best.furthest

  -- so it is with each position at which so many commands are done
  abbrev pub AreAccounted : ℕ → FirstFailures F → List (Position S) → Type 0
  AreAccounted depth best keys = EachFrom depth (λ k. IsAccounted best k.done k.state) keys

  -- The search has covered the words of W, and the remembered positions where so many commands are done are
  -- accounted for. A position is remembered before the words behind it are searched.
  pub record HasCoveredAll (depth : ℕ) (s : S) (W : List ℕ → Type 0) (old new : SearchProgress F)
      (keys : List (Position S)) : Type 0 where
    pub covered : HasCovered turn rest goal s W old new
    pub accounted : AreAccounted depth new.best keys

  -- where one was found, it is the least of W that the search is for; else the search has covered W
  abbrev pub IsFoundOrCovered :
      ℕ → (s : S) (W : List ℕ → Type 0) → SearchProgress F → SearchProgress F → List (Position S) → Bool → Type 0
  IsFoundOrCovered depth s W old new keys found =
      MatchBool found
      (IsLeastSought turn rest goal old.done.items s old.word.items W new)
      (HasCoveredAll depth s W old new keys)

-- the states of those positions at which all branches have ended
abbrev pub ends_of : {S : Type 0} → List ℕ → List (Position S) → List S
ends_of lengths [] = []
ends_of lengths (k ∷ ks) =
    if bytes_eq k.done lengths then k.state ∷ ends_of lengths ks else ends_of lengths ks

module _ {S F : Type 0} (turn : S → ℕ → ℕ → StepOutcome S F) (lengths : List ℕ) (most_rest : ℕ) where
  -- the position is reached from a place and a state
  abbrev pub IsReachedFrom : List ℕ → S → Position S → Type 0
  IsReachedFrom done s k = (u : List ℕ) × Leads turn lengths done s u k.done k.state

  -- The positions that were remembered on the way from a place and a state, each with at least so many
  -- commands done, and how many steps that took at most: as many as there are branches for each of the
  -- positions, and as many as the rest takes for each at which all branches have ended.
  pub record IsGrown (extra depth : ℕ) (done : List ℕ) (s : S)
      (old new : List (Position S)) (before now : ℕ) : Type 0 where
    pub added : List (Position S)
    pub keys : new ≡ old ++ added
    pub reached : Each (IsReachedFrom done s) added
    pub deep : Each (λ k. depth ≤ sum k.done) added
    pub steps :
        now ≤ before + extra + length lengths * length added + most_rest * length (ends_of lengths added)

module _ {S F : Type 0} (turn : S → ℕ → ℕ → StepOutcome S F) (rest : S → Ending F)
    (goal : Goal) (order : List ℕ → ℕ → Bool) (lengths : List ℕ) (most_rest : ℕ) where
  -- what a search of the words of W has found or covered, and what it has remembered on the way
  pub record IsSearched (extra depth : ℕ) (s : S) (W : List ℕ → Type 0) (old new : SearchProgress F)
      (before now : List (Position S)) (found : Bool) : Type 0 where
    pub grown : IsGrown turn lengths most_rest extra depth old.done.items s before now old.steps new.steps
    pub ends : IsFoundOrCovered turn rest goal order lengths depth s W old new now found
