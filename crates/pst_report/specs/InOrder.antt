-- Lists of what came of the numbers of a plan.
use Rattle.std.specs.Prelude.{◌≡◌, ℕ, ◌+◌, List, [], ◌∷◌}
use Rattle.pst_ledger.specs.declared.entry.Entry.{Entry}
use Rattle.pst_ledger.specs.declared.entry.Entry.TheVariants.{Undrawn, Held, Done, Lost}
use Rattle.pst_trial.specs.PlanView.{PlanView}
use Rattle.pst_trial.specs.RecordView.{RecordView}

-- a record is of the plan and of the number
abbrev pub IsOf : PlanView → ℕ → Entry RecordView → Type 0
IsOf p number Undrawn = Unit {0}
IsOf p number Held = Unit {0}
IsOf p number (Done r) = (r.plan ≡ p) × (r.number ≡ number)
IsOf p number (Lost cause) = Unit {0}

-- each record is of the plan and of the number at which it stands, where the first entry has the number
abbrev pub AreOf : PlanView → ℕ → List (Entry RecordView) → Type 0
AreOf p number [] = Unit {0}
AreOf p number (e ∷ es) = IsOf p number e × AreOf p (number + 1) es
