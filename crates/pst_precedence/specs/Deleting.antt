-- On the way to a minimal list of precedences.
use Rattle.std.specs.Prelude.{◌≡◌, ℕ, ◌<◌, Bool, true, false, List, ◌++◌, length, Some, None}
use Rattle.std.specs.List.{All, remove}
use Rattle.pst_case.specs.Matches.{matches}
use Rattle.pst_case.specs.OfModel.{OfModel}
use Rattle.pst_case.specs.Recorded.{recorded}
use Rattle.pst_case.specs.declared.case.Case.{Case}
use Rattle.pst_case.specs.declared.history.CallTime.{CallTime}
use Rattle.pst_case.specs.declared.history.History.{History}
use Rattle.pst_judge.specs.ByOrder.{times_of}
use Rattle.pst_judge.specs.Verdict.{first_broken}
use Rattle.pst_judge.specs.declared.judgement.Verdict.{Verdict}
use Rattle.pst_judge.specs.declared.judgement.Verdict.TheVariants.{Explained, Faulted, Unexplained, Broken}
use Rattle.pst_model.specs.declared.model.Source.{Source}
use Rattle.pst_precedence.specs.Precedences.{IsExplainedIn, IsRecorded, keeping}
use Rattle.pst_precedence.specs.declared.precedence.Precedence.{Precedence}
use Rattle.pst_reasons.specs.Reasons.{IsUnexplained}

-- the case is of the model, the history is one of the case with a value for each reply, and these times fit it
pub record IsTimedRun (m : Source) (s : OfModel) (h : History) (times : List (List CallTime)) : Type 0 where
  pub of_model : s.model ≡ m
  pub of_case : matches m s.case h ≡ true
  pub answered : first_broken 1 (recorded h) ≡ None
  pub fitting : times_of s.case h ≡ Some times

-- whether it is the verdict that an interleaving explains the run
abbrev pub is_explained : Verdict → Bool
is_explained (Explained word) = true
is_explained (Faulted place) = false
is_explained (Unexplained far) = false
is_explained (Broken number) = false

-- whether some interleaving in order explains the run
abbrev pub IsWhetherExplained : Source → (List ℕ → ℕ → Bool) → Case → History → Bool → Type 0
IsWhetherExplained m order c h true = IsExplainedIn m order c h
IsWhetherExplained m order c h false = IsUnexplained m order c h

-- each is recorded, together they rule out every explanation, and each of the rest is needed
pub record AreObstaclesSoFar
    (m : Source) (c : Case) (h : History) (times : List (List CallTime)) (first rest : List Precedence) : Type 0 where
  pub recorded : All (IsRecorded times) (first ++ rest)
  pub against : IsUnexplained m (keeping (first ++ rest)) c h
  pub needed : (i : ℕ) → i < length rest → IsExplainedIn m (keeping (first ++ remove rest i)) c h
