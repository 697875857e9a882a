-- What a search keeps of the merges that stop, and what it is for.
use Rattle.std.specs.Prelude.{◌≡◌, ℕ, suc, nat_lt, List, Option, Some, None, MatchOption, Bool, true, false, MatchBool}
use Rattle.std.specs.Option.{is_none}
use Rattle.pst_grid.specs.declared.steps.Ending.{Ending}
use Rattle.pst_grid.specs.declared.steps.Ending.TheVariants.{AllTrue, StopsAt}
use Rattle.pst_grid.specs.declared.steps.StopReason.{StopReason}
use Rattle.pst_grid.specs.declared.steps.StopReason.TheVariants.{False, Fault}
use Rattle.pst_grid.specs.declared.search.FirstFailures.{FirstFailures}
use Rattle.pst_grid.specs.declared.search.FalseInterleaving.{FalseInterleaving}
use Rattle.pst_grid.specs.declared.search.FaultedInterleaving.{FaultedInterleaving}
use Rattle.pst_grid.specs.declared.search.Goal.{Goal}
use Rattle.pst_grid.specs.declared.search.Goal.TheVariants.{ToEnd, Stopped}

-- the events of the merge that is kept up to its false one, which is counted too; 0 where none is kept
abbrev pub reach : Option FalseInterleaving → ℕ
reach None = 0
reach (Some x) = suc x.at

-- so many true events are more than those of the merge that is kept
abbrev pub is_further : ℕ → Option FalseInterleaving → Bool
is_further at None = true
is_further at (Some x) = nat_lt x.at at

-- what is kept after this word, which stops at a false event after so many true ones
abbrev pub KeepsFurthest : ℕ → List ℕ → Option FalseInterleaving → Option FalseInterleaving → Type 0
KeepsFurthest at word old new =
    MatchBool (is_further at old)
    (MatchOption new ⊥ (λ x. (x.at ≡ at) × (x.word.items ≡ word)))
    (new ≡ old)

-- what is kept after this word, which faults after so many true events
abbrev pub KeepsFault :
    {F : Type 0} → ℕ → List ℕ → F → Option (FaultedInterleaving F) → Option (FaultedInterleaving F) → Type 0
KeepsFault at word fault old new =
    MatchOption old
    (MatchOption new ⊥ (λ x. (x.at ≡ at) × (x.word.items ≡ word) × (x.fault ≡ fault)))
    (λ x. new ≡ Some x)

-- what is kept after this word, which stops for this reason after so many true events
abbrev pub Keeps : {F : Type 0} → ℕ → List ℕ → StopReason F → FirstFailures F → FirstFailures F → Type 0
Keeps at word False old new = (new.fault ≡ old.fault) × KeepsFurthest at word old.furthest new.furthest
Keeps at word (Fault fault) old new =
    (new.furthest ≡ old.furthest) × KeepsFault at word fault old.fault new.fault

-- a word that stops for this reason after so many true events is kept
abbrev pub is_kept : {F : Type 0} → ℕ → StopReason F → FirstFailures F → Bool
is_kept at False best = is_further at best.furthest
is_kept at (Fault fault) best = is_none best.fault

-- nothing is kept
abbrev pub nothing_kept : {F : Type 0} → FirstFailures F
nothing_kept = record { fault = None; furthest = None }

-- the search found a merge that is all true, or keeps one that faults or stops at a false event
abbrev pub HasEnd : {F : Type 0} → Bool → FirstFailures F → Type 0
HasEnd found best =
    MatchBool found (Unit {0})
    (MatchOption best.fault (MatchOption best.furthest ⊥ (λ x. Unit {0})) (λ f. Unit {0}))

-- a search with this goal is for words that stop
abbrev pub is_stopped : Goal → Bool
is_stopped ToEnd = false
is_stopped Stopped = true

-- a search with this goal is for words with this ending
abbrev pub IsSought : {F : Type 0} → Goal → Ending F → Type 0
IsSought goal AllTrue = goal ≡ ToEnd
IsSought goal (StopsAt at why) = goal ≡ Stopped

-- a search for words that stop keeps nothing before it has found one
abbrev pub IsFresh : {F : Type 0} → Goal → FirstFailures F → Type 0
IsFresh goal best = goal ≡ Stopped → best ≡ nothing_kept
