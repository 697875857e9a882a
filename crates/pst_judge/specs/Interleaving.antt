-- The interleaving of a verdict.
use Rattle.std.specs.Prelude.{◌≡◌, ℕ, ◌-◌, List, [], ◌++◌, length, take}
use Rattle.pst_case.specs.declared.case.Case.{Case}
use Rattle.pst_case.specs.declared.history.History.{History}
use Rattle.pst_eval.specs.declared.callbacks.FaultPlace.{FaultPlace}
use Rattle.pst_grid.specs.Merges.{IsMerge, IsLeast}
use Rattle.pst_grid.specs.declared.steps.Ending.TheVariants.{StopsAt}
use Rattle.pst_grid.specs.declared.steps.StopReason.TheVariants as why
use Rattle.pst_judge.specs.Replay.{Asking, post_asked, replayed_asking, branch_lengths}
use Rattle.pst_judge.specs.Verdict.{EndsAsking, FaultsAsking}
use Rattle.pst_judge.specs.declared.judgement.Verdict.{Verdict}
use Rattle.pst_judge.specs.declared.judgement.Verdict.TheVariants.{Explained, Faulted, Unexplained, Broken}
use Rattle.pst_model.specs.declared.model.Source.{Source}

-- the letters of the true events of a merge that stops after so many, those of the prefix included: all
-- letters where the suffix stops, and none where `init` or the prefix does
abbrev pub true_letters_of : Case → ℕ → List ℕ → List ℕ
true_letters_of c stop merge = take (stop - length c.prefix) merge

-- the word of a verdict that explains; of any other, the letters
abbrev pub word_or : Verdict → (letters : List ℕ) → List ℕ
word_or (Explained word) letters = word.items
word_or (Faulted place) letters = letters
word_or (Unexplained far) letters = letters
word_or (Broken number) letters = letters

-- interleavings where this is asked of each event
module _ (m : Source) (asked : Asking) (c : Case) (h : History) where
  -- the word begins a merge, and each merge that it begins stops by a false event after so many true ones
  abbrev pub StopsAllAsking : ℕ → List ℕ → Type 0
  StopsAllAsking far word =
      ((rest : List ℕ) × IsMerge (branch_lengths c) (word ++ rest))
      × ((rest : List ℕ) → IsMerge (branch_lengths c) (word ++ rest)
      → replayed_asking m asked c h (word ++ rest) ≡ StopsAt far why.False)

  -- the letters of the true events of the least merge that stops by a false event after so many, and each
  -- merge that begins so stops there
  abbrev pub IsFurthestAsking : ℕ → List ℕ → Type 0
  IsFurthestAsking far word =
      ((merge : List ℕ)
      × IsLeast (EndsAsking m asked c h (StopsAt far why.False)) merge
      × (word ≡ true_letters_of c far merge))
      × StopsAllAsking far word

  -- the letters of the true events of the least merge that faults, which it does at this place
  abbrev pub IsFaultingAsking : FaultPlace → List ℕ → Type 0
  IsFaultingAsking place word =
      (merge : List ℕ) × (n : ℕ)
      × IsLeast (FaultsAsking m asked c h) merge
      × (replayed_asking m asked c h merge ≡ StopsAt n (why.Fault place))
      × (word ≡ true_letters_of c n merge)

  -- the letters of the merge that a verdict rests on, where that does not explain
  abbrev pub HasLettersAsking : Verdict → List ℕ → Type 0
  HasLettersAsking (Explained word) letters = Unit {0}
  HasLettersAsking (Faulted place) letters = IsFaultingAsking place letters
  HasLettersAsking (Unexplained far) letters = IsFurthestAsking far letters
  HasLettersAsking (Broken number) letters = letters ≡ []

-- interleavings where each event's postcondition is asked
module _ (m : Source) (c : Case) (h : History) where
  abbrev pub IsFurthest : ℕ → List ℕ → Type 0
  IsFurthest = IsFurthestAsking m (post_asked m) c h

  abbrev pub IsFaulting : FaultPlace → List ℕ → Type 0
  IsFaulting = IsFaultingAsking m (post_asked m) c h

  -- the interleaving of a verdict: the word that explains; the letters of the true events of the least merge
  -- that faults, or of the least that comes furthest; none where a reply is no value
  abbrev pub IsInterleaving : Verdict → List ℕ → Type 0
  IsInterleaving (Explained word) letters = letters ≡ word.items
  IsInterleaving (Faulted place) letters = IsFaulting place letters
  IsInterleaving (Unexplained far) letters = IsFurthest far letters
  IsInterleaving (Broken number) letters = letters ≡ []
