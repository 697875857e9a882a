-- When a case is valid, and why it is not.
use Rattle.std.specs.Prelude.{◌≡◌, ℕ, List, Option, Some, None}
use Rattle.pst_case.specs.declared.case.Case.{Case}
use Rattle.pst_grid.specs.Merges.{IsMerge, IsLeast}
use Rattle.pst_grid.specs.declared.steps.Ending.TheVariants.{AllTrue, StopsAt}
use Rattle.pst_grid.specs.declared.steps.StopReason.TheVariants as stop
use Rattle.pst_judge.specs.Replay.{branch_lengths}
use Rattle.pst_judge.specs.Symbolic.{symbolic}
use Rattle.pst_judge.specs.declared.symbolic.SymbolicFailure.{SymbolicFailure}
use Rattle.pst_judge.specs.declared.symbolic.SymbolicFailure.TheVariants as failing
use Rattle.pst_judge.specs.declared.validated.Why.{Why}
use Rattle.pst_judge.specs.declared.validated.Why.TheVariants.{PreFalse, CallbackFault, NoMemory}
use Rattle.pst_model.specs.declared.model.Source.{Source}

module _ (m : Source) (c : Case) where
  -- valid: in every interleaving of the branches, each precondition is true and no callback faults, from the
  -- prefix to the end of the suffix
  abbrev pub IsValid : Type 0
  IsValid = (word : List ℕ) → IsMerge (branch_lengths c) word → symbolic m c word ≡ AllTrue

  -- a merge that fails
  abbrev pub Fails : List ℕ → Type 0
  Fails word = IsMerge (branch_lengths c) word × (symbolic m c word ≡ AllTrue → ⊥)

  -- the word is the least merge that fails, and it does so by this
  abbrev pub FailsFirst : SymbolicFailure → List ℕ → Type 0
  FailsFirst f word = IsLeast Fails word × ((n : ℕ) × (symbolic m c word ≡ StopsAt n (stop.Fault f)))

  -- prefalse: the least merge that fails does so at this command, whose precondition is not true
  -- callback fault: it does so at this place
  abbrev pub IsWhy : Why → Type 0
  IsWhy (PreFalse command merge) = FailsFirst (failing.PreFalse command) merge.items
  IsWhy (CallbackFault place merge) = FailsFirst (failing.CallbackFault place) merge.items
  IsWhy NoMemory = ⊥

  -- no reason where the case is valid, else why it is not
  abbrev pub IsReason : Option Why → Type 0
  IsReason None = IsValid
  IsReason (Some why) = IsWhy why
