-- Replies by the results that are known when each call is made, which the driver goes by.
use Rattle.std.specs.Prelude.{◌≡◌, ◌<◌, ◌++◌, ⊤, Bool, List, [], ◌∷◌, map, length, Option, Some, None, MatchBool}
use Rattle.std.specs.List.{list_all, list_any}
use Rattle.pst_case.specs.Recorded.{result_of}
use Rattle.pst_case.specs.Shape.{joined, is_known}
use Rattle.pst_case.specs.declared.case.Command.{Command}
use Rattle.pst_case.specs.declared.history.History.{History}
use Rattle.pst_case.specs.declared.history.Reply.{Reply}
use Rattle.pst_case.specs.declared.history.Reply.TheVariants.{Value as Answered, Misfit, Failed, NotRun, Unknown}
use Rattle.pst_driver.specs.Driven.{IsRealReply, IsLateReply, none_run, all_answers, is_failure, goes_on}
use Rattle.pst_driver.specs.declared.driving.DriveFault.{DriveFault}
use Rattle.pst_driver.specs.declared.driving.DriveFault.TheVariants.{ResetFailed, NoThread, NoMemory}
use Rattle.pst_model.specs.Parts.{operation_of}
use Rattle.pst_model.specs.declared.model.Source.{Source}
use Rattle.pst_system.specs.Kept.{Answers, Fails}
use Rattle.pst_value.specs.declared.value.Value.{Value}

-- whether a command calls an operation of the model
abbrev pub calls_known : Source → Command → Bool
calls_known m c = is_known (operation_of m.items c.op)

-- whether each command does
abbrev pub all_known : Source → List Command → Bool
all_known m cs = list_all (calls_known m) cs

-- the results of commands of another branch, which are not known
abbrev pub none_known : List Command → List (Option Value)
none_known cs = map (λ c. None) cs

module _ (m : Source) (answers : Answers) (fails : Fails) where
  -- the replies of one part, where these results are known before it
  abbrev pub PartRuns : List (Option Value) → List Command → List Reply → Type 0
  PartRuns known [] rs = rs ≡ []
  PartRuns known (c ∷ cs) [] = ⊥
  PartRuns known (c ∷ cs) (Answered v ∷ rs) =
      IsRealReply m answers fails known c (Answered v) × PartRuns (known ++ Some v ∷ []) cs rs
  PartRuns known (c ∷ cs) (Misfit ∷ rs) = IsRealReply m answers fails known c Misfit × (rs ≡ none_run cs)
  PartRuns known (c ∷ cs) (Failed ∷ rs) = IsRealReply m answers fails known c Failed × (rs ≡ none_run cs)
  PartRuns known (c ∷ cs) (NotRun ∷ rs) = ⊥
  PartRuns known (c ∷ cs) (Unknown ∷ rs) = IsRealReply m answers fails known c Unknown × (rs ≡ none_run cs)

  -- those of a suffix before which some outcome is unknown
  abbrev pub LateRuns : List (Option Value) → List Command → List Reply → Type 0
  LateRuns known [] rs = rs ≡ []
  LateRuns known (c ∷ cs) [] = ⊥
  LateRuns known (c ∷ cs) (r ∷ rs) =
      IsLateReply m answers fails known c r
      × MatchBool (goes_on r) (LateRuns (known ++ result_of r ∷ []) cs rs) (rs ≡ none_run cs)

  -- those of a suffix after these replies
  abbrev pub SuffixRuns : List Reply → List Command → List Reply → Type 0
  SuffixRuns before cs rs = MatchBool (all_answers before)
      (PartRuns (map result_of before) cs rs)
      (MatchBool (list_any is_failure before) (rs ≡ none_run cs) (LateRuns (map result_of before) cs rs))

  -- the replies of branches: each goes by what is known before all, and by no result of another branch
  abbrev pub BranchesRun : List (Option Value) → List (List Command) → List (List Reply) → Type 0
  BranchesRun known [] hs = hs ≡ []
  BranchesRun known (b ∷ bs) [] = ⊥
  BranchesRun known (b ∷ bs) (h ∷ hs) = PartRuns known b h × BranchesRun (known ++ none_known b) bs hs

-- why branches may not be run
abbrev pub IsBranchFault : List (List Command) → DriveFault → Type 0
IsBranchFault bs ResetFailed = ⊥
IsBranchFault bs NoThread = 0 < length (joined bs)
IsBranchFault bs NoMemory = ⊤

-- why the thread of a branch may give no replies
abbrev pub IsPartFault : DriveFault → Type 0
IsPartFault ResetFailed = ⊥
IsPartFault NoThread = ⊤
IsPartFault NoMemory = ⊤

-- a history that is as another, but for its times
abbrev pub IsSameButTimes : History → History → Type 0
IsSameButTimes h timed =
    timed ≡ record { prefix = h.prefix; branches = h.branches; suffix = h.suffix; times = timed.times }
