-- What the trial of a number may come to on a system.
use Rattle.std.specs.Prelude.{◌≡◌, ⊤, ℕ}
use Rattle.pst_driver.specs.Driven.{IsDriven}
use Rattle.pst_driver.specs.declared.driving.DriveFault.{DriveFault}
use Rattle.pst_driver.specs.declared.driving.DriveFault.TheVariants as fault
use Rattle.pst_ledger.specs.declared.entry.Cause.{Cause}
use Rattle.pst_ledger.specs.declared.entry.Cause.TheVariants.{ResetFailed, NoThread, NoMemory}
use Rattle.pst_ledger.specs.declared.entry.Entry.{Entry}
use Rattle.pst_ledger.specs.declared.entry.Entry.TheVariants.{Undrawn, Held, Done, Lost}
use Rattle.pst_system.specs.Kept.{Answers, Fails, ResetFails}
use Rattle.pst_system.specs.declared.system.CallFault.{CallFault}
use Rattle.pst_trial.specs.PlanView.{PlanView}
use Rattle.pst_trial.specs.RecordView.{RecordView}
use Rattle.pst_trial.specs.Sound.{IsSoundBy}

-- the cause that has the name of a trial's fault
abbrev pub cause_of : DriveFault → Cause
cause_of fault.ResetFailed = ResetFailed
cause_of fault.NoThread = NoThread
cause_of fault.NoMemory = NoMemory

-- What the trial of a number may come to on a system with these relations: a record of the plan and the
-- number that is sound, with histories that the system may give, or a loss, by a failed reset only where a
-- reset may fail.
abbrev pub MayGive : Answers → Fails → ResetFails → PlanView → ℕ → Entry RecordView → Type 0
MayGive answers fails reset_fails p k Undrawn = ⊥
MayGive answers fails reset_fails p k Held = ⊥
MayGive answers fails reset_fails p k (Done r) =
    (r.plan ≡ p) × (r.number ≡ k) × IsSoundBy (λ v h. IsDriven v.model answers fails v.case h) p k r.outcome
MayGive answers fails reset_fails p k (Lost ResetFailed) = (f : CallFault) × reset_fails f
MayGive answers fails reset_fails p k (Lost NoThread) = ⊤
MayGive answers fails reset_fails p k (Lost NoMemory) = ⊤
