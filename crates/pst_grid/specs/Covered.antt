-- What a search knows of the words that it has covered.
use Rattle.std.specs.Prelude.{◌≡◌, ℕ, ◌+◌, ◌<◌, ◌≤◌, ◌⊎◌, List, [], ◌++◌, length, Option, Some, None, Bool, MatchBool}
use Rattle.pst_grid.specs.declared.steps.StopReason.TheVariants.{False, Fault}
use Rattle.pst_grid.specs.declared.steps.StepOutcome.{StepOutcome}
use Rattle.pst_grid.specs.declared.search.FirstFailures.{FirstFailures}
use Rattle.pst_grid.specs.declared.search.FalseInterleaving.{FalseInterleaving}
use Rattle.pst_grid.specs.declared.search.FaultedInterleaving.{FaultedInterleaving}
use Rattle.pst_grid.specs.declared.search.Goal.{Goal}
use Rattle.pst_grid.specs.declared.search.SearchProgress.{SearchProgress}
use Rattle.pst_grid.specs.Orders.{Extends}
use Rattle.pst_grid.specs.Kept.{reach, nothing_kept, Keeps, IsSought}
use Rattle.pst_grid.specs.Merges.{run, none_done, IsUpTo}
use Rattle.pst_grid.specs.declared.steps.Ending.{Ending}
use Rattle.pst_grid.specs.declared.steps.Ending.TheVariants.{AllTrue, StopsAt}

-- A search has this word, which has this ending behind so many true events: if it is all true the search stands
-- there, and if it stops it is all that the search keeps.
abbrev pub IsHeld : {F : Type 0} → ℕ → List ℕ → Ending F → SearchProgress F → Type 0
IsHeld n word AllTrue search = search.word.items ≡ word
IsHeld n word (StopsAt at why) search = Keeps (n + at) word why nothing_kept search.best

module _ {S F : Type 0} (turn : S → ℕ → ℕ → StepOutcome S F) (rest : S → Ending F) (done : List ℕ) (s : S) where
  -- the run of this word faults
  abbrev pub FaultsOn : List ℕ → Type 0
  FaultsOn w = (n : ℕ) × (f : F) × (run turn rest done s w ≡ StopsAt n (Fault f))

  -- the least faulting word of W, as it is kept behind the letters before it
  pub record IsLeastFault (before : List ℕ) (W : List ℕ → Type 0) (x : FaultedInterleaving F) : Type 0 where
    pub letters : List ℕ
    pub steps : ℕ
    pub member : W letters
    pub word : x.word.items ≡ before ++ letters
    pub faults : run turn rest done s letters ≡ StopsAt steps (Fault x.fault)
    pub place : x.at ≡ length before + steps
    pub least : (v : List ℕ) → W v → FaultsOn v → IsUpTo letters v

  -- the least word of W with so many true events before a false one, kept behind the letters before it
  pub record IsLeastFalse (before : List ℕ) (W : List ℕ → Type 0) (x : FalseInterleaving) : Type 0 where
    pub letters : List ℕ
    pub steps : ℕ
    pub member : W letters
    pub word : x.word.items ≡ before ++ letters
    pub stops : run turn rest done s letters ≡ StopsAt steps False
    pub place : x.at ≡ length before + steps
    pub least : (v : List ℕ) → W v → run turn rest done s v ≡ StopsAt steps False → IsUpTo letters v

  -- the furthest merge that is kept is one of W, and further than the one before
  pub record IsFurther (before : List ℕ) (W : List ℕ → Type 0) (old new : Option FalseInterleaving) : Type 0 where
    pub merge : FalseInterleaving
    pub kept : new ≡ Some merge
    pub more : reach old ≤ merge.at
    pub least : IsLeastFalse before W merge

module _ {S F : Type 0} (turn : S → ℕ → ℕ → StepOutcome S F) (rest : S → Ending F)
    (goal : Goal) (done : List ℕ) (s : S) where
  -- What the search has seen, old before and new after it covered the words of W, which stand behind the
  -- letters before: it is for none of W; the first fault is kept, and is that of W's least faulting word;
  -- no word of W is further than the furthest merge, which is the one before or the least so far in W.
  pub record Covered (before : List ℕ) (W : List ℕ → Type 0) (old new : FirstFailures F) : Type 0 where
    pub none_sought : (w : List ℕ) → W w → IsSought goal (run turn rest done s w) → ⊥
    pub kept : (x : FaultedInterleaving F) → old.fault ≡ Some x → new.fault ≡ Some x
    pub none_faults : new.fault ≡ None → (w : List ℕ) → W w → FaultsOn turn rest done s w → ⊥
    pub first :
        old.fault ≡ None → (x : FaultedInterleaving F) → new.fault ≡ Some x → IsLeastFault turn rest done s before W x
    pub grows : reach old.furthest ≤ reach new.furthest
    pub bounds : (w : List ℕ) (n : ℕ) →
        W w → run turn rest done s w ≡ StopsAt n False → length before + n < reach new.furthest
    pub reached :
        (new.furthest ≡ old.furthest) ⊎ IsFurther turn rest done s before W old.furthest new.furthest

  -- the least word of W that the search is for, behind the letters before it
  pub record IsLeastSought (before : List ℕ) (W : List ℕ → Type 0) (new : SearchProgress F) : Type 0 where
    pub letters : List ℕ
    pub member : W letters
    pub sought : IsSought goal (run turn rest done s letters)
    pub held : IsHeld (length before) (before ++ letters) (run turn rest done s letters) new
    pub least : (v : List ℕ) → W v → IsSought goal (run turn rest done s v) → IsUpTo letters v

module _ {S F : Type 0} (turn : S → ℕ → ℕ → StepOutcome S F) (rest : S → Ending F) (goal : Goal) (s : S) where
  -- the search is where it was, and has covered the words of W
  pub record HasCovered (W : List ℕ → Type 0) (old new : SearchProgress F) : Type 0 where
    pub word : new.word.items ≡ old.word.items
    pub done : new.done.items ≡ old.done.items
    pub covered : Covered turn rest goal old.done.items s old.word.items W old.best new.best

  -- where one was found, it is the least of W that the search is for; else the search has covered W
  abbrev pub IsExplored : (W : List ℕ → Type 0) → SearchProgress F → SearchProgress F → Bool → Type 0
  IsExplored W old new found =
      MatchBool found
      (IsLeastSought turn rest goal old.done.items s old.word.items W new)
      (HasCovered W old new)

  -- so it is with all words, from the start of branches of these lengths
  abbrev pub IsExploredWhole : (List ℕ → ℕ → Bool) → List ℕ → SearchProgress F → Bool → Type 0
  IsExploredWhole order lengths new found =
      let none = none_done lengths in
      MatchBool found
      (IsLeastSought turn rest goal none s [] (Extends order lengths none) new)
      (Covered turn rest goal none s [] (Extends order lengths none) nothing_kept new.best)
