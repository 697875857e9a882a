-- The order in time in the words of its calls, and the verdict over the interleavings that are in it.
use Rattle.std.specs.Prelude.{◌≡◌, ◌↔◌, ℕ, suc, ◌<◌, ◌≤◌, false, List, take, slice_get, Option, Some, None}
use Rattle.pst_grid.specs.Merges.{IsMerge, times}
use Rattle.pst_grid.specs.Orders.{IsMergeInOrder}
use Rattle.pst_judge.specs.RealTime.{AreLengths, AreTimely, call_in, precedes, real_time}
use Rattle.pst_case.specs.declared.history.CallTime.{CallTime}
use Rattle.pst_case.specs.declared.case.Case.{Case}
use Rattle.pst_case.specs.declared.history.History.{History}
use Rattle.pst_judge.specs.InOrder.{IsVerdictAmong}
use Rattle.pst_judge.specs.Replay.{post_asked, branch_lengths}
use Rattle.pst_judge.specs.declared.judgement.Verdict.{Verdict}
use Rattle.pst_model.specs.declared.model.Source.{Source}

module _ (branches : List (List CallTime)) where
  -- a command of a branch, by its index
  abbrev pub command_at : ℕ → ℕ → Option CallTime
  command_at b i = call_in (slice_get branches b) (Some i)

  -- the command of a letter that follows these: its index is how many letters of its branch are before it
  abbrev pub call_after : List ℕ → Option ℕ → Option CallTime
  call_after before None = None
  call_after before (Some b) = command_at b (times b before)

  -- the command at a place of a word
  abbrev pub call_at : List ℕ → ℕ → Option CallTime
  call_at word i = call_after (take i word) (slice_get word i)

  -- no command is in the word before one that precedes it
  abbrev pub IsInTime : List ℕ → Type 0
  IsInTime word =
      (i j : ℕ) (x y : CallTime) → i < j
      → call_at word i ≡ Some x → call_at word j ≡ Some y → precedes y x ≡ false

  -- the commands of a branch follow each other: each but the last completed no later than the next was invoked
  abbrev pub AreInTurn : Type 0
  AreInTurn =
      (b i : ℕ) (x y : CallTime) → command_at b i ≡ Some x → command_at b (suc i) ≡ Some y
      → (t : ℕ) × (x.completed ≡ Some t) × (t ≤ y.invoked)

-- the times of the commands of branches of these lengths: one for each, none completed before it was invoked,
-- and those of a branch follow each other
pub record AreTimesOf (lengths : List ℕ) (branches : List (List CallTime)) : Type 0 where
  pub each : AreLengths branches lengths
  pub timely : AreTimely branches
  pub turns : AreInTurn branches

-- a merge in which no command is before one that precedes it
abbrev pub IsMergeInTime : List (List CallTime) → List ℕ → List ℕ → Type 0
IsMergeInTime branches lengths word = IsMerge lengths word × IsInTime branches word

-- these are the merges in the order `real_time`
abbrev pub RealTimeIsOrderInTime : Type 0
RealTimeIsOrderInTime =
    (lengths : List ℕ) (branches : List (List CallTime)) → AreTimesOf lengths branches
    → (word : List ℕ) → IsMergeInOrder (real_time branches) lengths word ↔ IsMergeInTime branches lengths word

-- the verdict over the merges in which no command is before one that precedes it
abbrev pub IsVerdictInTime : Source → List (List CallTime) → Case → History → Verdict → Type 0
IsVerdictInTime m branches c h = IsVerdictAmong m (post_asked m) c h (IsMergeInTime branches (branch_lengths c))
