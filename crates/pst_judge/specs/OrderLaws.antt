-- Laws of the verdict over the interleavings in an order.
use Rattle.std.specs.Prelude.{◌↔◌, ℕ, Bool, List}
use Rattle.pst_case.specs.declared.case.Case.{Case}
use Rattle.pst_case.specs.declared.history.History.{History}
use Rattle.pst_grid.specs.Orders.{any_order, IsMergeInOrder, NeverBlocks}
use Rattle.pst_judge.specs.InOrder.{IsVerdictInOrder}
use Rattle.pst_judge.specs.Verdict.{IsVerdict}
use Rattle.pst_judge.specs.declared.judgement.Verdict.{Verdict}
use Rattle.pst_judge.specs.declared.judgement.Verdict.TheVariants.{Explained, Faulted, Unexplained, Broken}
use Rattle.pst_model.specs.declared.model.Source.{Source}

abbrev pub IsExplained : Verdict → Type 0
IsExplained (Explained word) = Unit {0}
IsExplained (Faulted place) = ⊥
IsExplained (Unexplained far) = ⊥
IsExplained (Broken number) = ⊥

-- in the order in which every branch is always open it is the verdict over all interleavings
abbrev pub AnyOrderIsNone : Type 0
AnyOrderIsNone =
    (m : Source) (c : Case) (h : History) (v : Verdict) → IsVerdictInOrder m any_order c h v ↔ IsVerdict m c h v

-- what is explained in an order is explained
abbrev pub OrderedIsExplained : Type 0
OrderedIsExplained =
    (m : Source) (order : List ℕ → ℕ → Bool) (c : Case) (h : History) (v w : Verdict)
    → IsVerdictInOrder m order c h v → IsExplained v → IsVerdict m c h w → IsExplained w

-- some interleaving is in an order that never blocks
abbrev pub SomeIsInOrder : Type 0
SomeIsInOrder =
    (order : List ℕ → ℕ → Bool) (lengths : List ℕ) → NeverBlocks order lengths
    → (word : List ℕ) × IsMergeInOrder order lengths word
