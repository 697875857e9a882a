-- Recorded precedences that imply all others.
use Rattle.std.specs.Prelude.{◌≡◌, ℕ, ◌≤◌, true, false, List, slice_get, Option, Some, None}
use Rattle.std.specs.List.{All, Contains}
use Rattle.pst_case.specs.declared.history.CallTime.{CallTime}
use Rattle.pst_judge.specs.RealTime.{precedes}
use Rattle.pst_precedence.specs.Precedences.{IsRecorded}
use Rattle.pst_precedence.specs.declared.precedence.Call.{Call}
use Rattle.pst_precedence.specs.declared.precedence.Precedence.{Precedence}

-- the index of the last of these calls that precedes the call
abbrev pub IsLastPreceding : List CallTime → CallTime → Option ℕ → Type 0
IsLastPreceding calls call None = (i : ℕ) (x : CallTime) → slice_get calls i ≡ Some x → precedes x call ≡ false
IsLastPreceding calls call (Some last) =
    ((x : CallTime) × (slice_get calls last ≡ Some x) × (precedes x call ≡ true))
    × ((i : ℕ) (x : CallTime) → slice_get calls i ≡ Some x → precedes x call ≡ true → i ≤ last)

-- a precedence of the list implies this one: its later call is the same, and its earlier call is of the same branch and
-- comes no sooner
pub record IsImplied (ps : List Precedence) (p : Precedence) : Type 0 where
  pub by : Precedence
  pub listed : Contains ps by
  pub later : by.later ≡ p.later
  pub branch : by.earlier.branch ≡ p.earlier.branch
  pub index : p.earlier.index ≤ by.earlier.index

-- a recorded precedence between calls of different branches
pub record IsBetween (times : List (List CallTime)) (p : Precedence) : Type 0 where
  pub recorded : IsRecorded times p
  pub apart : p.earlier.branch ≡ p.later.branch → ⊥

-- to a list come recorded precedences, and all that are wanted are implied
pub record Adds (times : List (List CallTime)) (wanted : Precedence → Type 0) (old new : List Precedence) : Type 0 where
  pub recorded : All (IsRecorded times) old → All (IsRecorded times) new
  pub kept : (p : Precedence) → IsImplied old p → IsImplied new p
  pub implied : (p : Precedence) → wanted p → IsBetween times p → IsImplied new p

-- its later call is this one
abbrev pub IsLaterCall : Call → Precedence → Type 0
IsLaterCall later p = p.later ≡ later

-- its later call is of this branch
abbrev pub IsLaterIn : ℕ → Precedence → Type 0
IsLaterIn branch p = p.later.branch ≡ branch

-- each is recorded, and they imply all others
pub record ListsAll (times : List (List CallTime)) (ps : List Precedence) : Type 0 where
  pub recorded : All (IsRecorded times) ps
  pub implied : (p : Precedence) → IsBetween times p → IsImplied ps p
