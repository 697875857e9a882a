-- The verdict on a history, and its interleaving, where only the interleavings in an order count.
use Rattle.std.specs.Prelude.{◌≡◌, ℕ, ◌≤◌, Bool, List, [], ◌++◌, Option, Some, None}
use Rattle.pst_case.specs.Recorded.{recorded}
use Rattle.pst_case.specs.declared.case.Case.{Case}
use Rattle.pst_case.specs.declared.history.History.{History}
use Rattle.pst_eval.specs.declared.callbacks.FaultPlace.{FaultPlace}
use Rattle.pst_grid.specs.Merges.{IsLeast}
use Rattle.pst_grid.specs.Orders.{IsMergeInOrder}
use Rattle.pst_grid.specs.declared.steps.Ending.{Ending}
use Rattle.pst_grid.specs.declared.steps.Ending.TheVariants.{AllTrue, StopsAt}
use Rattle.pst_grid.specs.declared.steps.StopReason.TheVariants as why
use Rattle.pst_judge.specs.Interleaving.{true_letters_of}
use Rattle.pst_judge.specs.Replay.{Asking, post_asked, replayed_asking, branch_lengths}
use Rattle.pst_judge.specs.Verdict.{first_broken}
use Rattle.pst_judge.specs.declared.judgement.Verdict.{Verdict}
use Rattle.pst_judge.specs.declared.judgement.Verdict.TheVariants.{Explained, Faulted, Unexplained, Broken}
use Rattle.pst_model.specs.declared.model.Source.{Source}

-- where this is asked of each event, and only the merges that are in W count
module _ (m : Source) (asked : Asking) (c : Case) (h : History) (W : List ℕ → Type 0) where
  -- a merge whose replay ends so
  abbrev pub EndsAmong : Ending FaultPlace → List ℕ → Type 0
  EndsAmong e word = W word × (replayed_asking m asked c h word ≡ e)

  -- a merge whose replay faults
  abbrev pub FaultsAmong : List ℕ → Type 0
  FaultsAmong word =
      W word × ((n : ℕ) × (p : FaultPlace) × (replayed_asking m asked c h word ≡ StopsAt n (why.Fault p)))

  -- explained: the word is the least merge that is all true
  -- faulted: no merge is all true, and the least that faults does so at this place
  -- unexplained: no merge is all true and none faults, and the most true events before a false one are so
  -- many
  abbrev pub IsJudgedAmong : Verdict → Type 0
  IsJudgedAmong (Explained word) = IsLeast (EndsAmong AllTrue) word.items
  IsJudgedAmong (Faulted place) =
      ((v : List ℕ) → EndsAmong AllTrue v → ⊥)
      × ((word : List ℕ)
      × IsLeast FaultsAmong word
      × ((n : ℕ) × (replayed_asking m asked c h word ≡ StopsAt n (why.Fault place))))
  IsJudgedAmong (Unexplained far) =
      ((v : List ℕ) → EndsAmong AllTrue v → ⊥)
      × ((v : List ℕ) → FaultsAmong v → ⊥)
      × ((v : List ℕ) × EndsAmong (StopsAt far why.False) v)
      × ((v : List ℕ) (n : ℕ) → EndsAmong (StopsAt n why.False) v → n ≤ far)
  IsJudgedAmong (Broken number) = ⊥

  abbrev pub IsVerdictOfAmong : Option ℕ → Verdict → Type 0
  IsVerdictOfAmong (Some number) v = v ≡ Broken number
  IsVerdictOfAmong None v = IsJudgedAmong v

  -- broken at the least command whose reply is no value; else by the replays of the merges
  abbrev pub IsVerdictAmong : Verdict → Type 0
  IsVerdictAmong v = IsVerdictOfAmong (first_broken 1 (recorded h)) v

  -- the word begins a merge, and each merge that it begins stops by a false event after so many true ones
  abbrev pub StopsAllAmong : ℕ → List ℕ → Type 0
  StopsAllAmong far word =
      ((rest : List ℕ) × W (word ++ rest))
      × ((rest : List ℕ) → W (word ++ rest) → replayed_asking m asked c h (word ++ rest) ≡ StopsAt far why.False)

  -- the letters of the true events of the least merge that stops by a false event after so many, and each
  -- merge that begins so stops there
  abbrev pub IsFurthestAmong : ℕ → List ℕ → Type 0
  IsFurthestAmong far word =
      ((merge : List ℕ)
      × IsLeast (EndsAmong (StopsAt far why.False)) merge
      × (word ≡ true_letters_of c far merge))
      × StopsAllAmong far word

  -- the letters of the true events of the least merge that faults, which it does at this place
  abbrev pub IsFaultingAmong : FaultPlace → List ℕ → Type 0
  IsFaultingAmong place word =
      (merge : List ℕ) × (n : ℕ)
      × IsLeast FaultsAmong merge
      × (replayed_asking m asked c h merge ≡ StopsAt n (why.Fault place))
      × (word ≡ true_letters_of c n merge)

  -- the letters of the merge that a verdict rests on, where that does not explain
  abbrev pub HasLettersAmong : Verdict → List ℕ → Type 0
  HasLettersAmong (Explained word) letters = Unit {0}
  HasLettersAmong (Faulted place) letters = IsFaultingAmong place letters
  HasLettersAmong (Unexplained far) letters = IsFurthestAmong far letters
  HasLettersAmong (Broken number) letters = letters ≡ []

  -- the interleaving of a verdict: the word that explains, or else the letters
  abbrev pub IsInterleavingAmong : Verdict → List ℕ → Type 0
  IsInterleavingAmong (Explained word) letters = letters ≡ word.items
  IsInterleavingAmong (Faulted place) letters = IsFaultingAmong place letters
  IsInterleavingAmong (Unexplained far) letters = IsFurthestAmong far letters
  IsInterleavingAmong (Broken number) letters = letters ≡ []

-- the merges of the branches of a case that are in order
abbrev pub IsRunInOrder : (List ℕ → ℕ → Bool) → Case → List ℕ → Type 0
IsRunInOrder order c = IsMergeInOrder order (branch_lengths c)

-- the verdict where this is asked of each event, and only the merges in order count
abbrev pub IsVerdictInOrderAsking : Source → Asking → (List ℕ → ℕ → Bool) → Case → History → Verdict → Type 0
IsVerdictInOrderAsking m asked order c h = IsVerdictAmong m asked c h (IsRunInOrder order c)

abbrev pub HasLettersInOrderAsking :
    Source → Asking → (List ℕ → ℕ → Bool) → Case → History → Verdict → List ℕ → Type 0
HasLettersInOrderAsking m asked order c h = HasLettersAmong m asked c h (IsRunInOrder order c)

-- where each event's postcondition is asked
abbrev pub IsVerdictInOrder : Source → (List ℕ → ℕ → Bool) → Case → History → Verdict → Type 0
IsVerdictInOrder m = IsVerdictInOrderAsking m (post_asked m)

abbrev pub IsInterleavingInOrder : Source → (List ℕ → ℕ → Bool) → Case → History → Verdict → List ℕ → Type 0
IsInterleavingInOrder m order c h = IsInterleavingAmong m (post_asked m) c h (IsRunInOrder order c)
