-- Commands whose postcondition is an equality with the result.
use Rattle.std.specs.Prelude.{◌≡◌, ◌⊎◌, ℕ, false, List, Some}
use Rattle.pst_case.specs.declared.case.Case.{Case}
use Rattle.pst_case.specs.declared.history.History.{History}
use Rattle.pst_judge.specs.declared.events.Event.{Event}
use Rattle.pst_model.specs.Parts.{operation_of}
use Rattle.pst_model.specs.WellTyped.{name_r}
use Rattle.pst_model.specs.declared.expr.Binary.TheVariants.{Equal}
use Rattle.pst_model.specs.declared.expr.Expr.{Expr, Binary, Name}
use Rattle.pst_model.specs.declared.model.Op.{Op}
use Rattle.pst_model.specs.declared.model.Source.{Source}
use Rattle.pst_reasons.specs.Allowed.{IsEvent, HasOneAnswer}
use Rattle.pst_eval.specs.Names.{names}

-- `(= r e)` or `(= e r)`
abbrev pub IsEquality : Expr → Expr → Type 0
IsEquality e post = (post ≡ Binary Equal (Name name_r) e) ⊎ (post ≡ Binary Equal e (Name name_r))

-- the postcondition of the operation is one of these, and the result is not named on its other side
abbrev pub HasEquality : Source → ℕ → Type 0
HasEquality m op =
    (o : Op) × (e : Expr) × (operation_of m.items op ≡ Some o) × IsEquality e o.post
    × (names name_r e ≡ false)

-- a command with such a postcondition has at most one right answer on each state
abbrev pub EqualityHasOneAnswer : Type 0
EqualityHasOneAnswer =
    (m : Source) (c : Case) (h : History) (number : ℕ)
    → ((e : Event) → IsEvent c h e → e.number ≡ number → HasEquality m e.op)
    → HasOneAnswer m c h number
