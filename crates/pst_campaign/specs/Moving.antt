-- What a trial may come to on a system that is kept, it may come to on the system as it was.
use Rattle.std.proofs.Common.{◌≡◌, ◌⊎◌, ℕ, inl, inr}
use Rattle.pst_campaign.specs.Entries.{MayGive, cause_of}
use Rattle.pst_case.specs.OfModel.{OfModel}
use Rattle.pst_driver.specs.Driven.{IsDriveFault}
use Rattle.pst_driver.specs.declared.driving.DriveFault.{DriveFault}
use Rattle.pst_driver.specs.declared.driving.DriveFault.TheVariants as fault
use Rattle.pst_ledger.specs.declared.entry.Cause.TheVariants.{ResetFailed, NoThread, NoMemory}
use Rattle.pst_ledger.specs.declared.entry.Entry.{Entry}
use Rattle.pst_ledger.specs.declared.entry.Entry.TheVariants.{Undrawn, Held, Done, Lost}
use Rattle.pst_system.specs.Kept.{Answers, Fails, ResetFails, AreKept}
use Rattle.pst_trial.specs.JudgedRuns.{MayFail}
use Rattle.pst_trial.specs.PlanView.{PlanView}
use Rattle.pst_trial.specs.RecordView.{RecordView}
use Rattle.pst_trial.proofs.Sounding.{sound_moves}
use Rattle.pst_trial.specs.Steadiness.{steady_of}

pub gives_before : {A B : Answers} {F G : Fails} {R S : ResetFails} → AreKept A B F G R S
    → (p : PlanView) (k : ℕ) (e : Entry RecordView)
    → MayGive A F R p k e → MayGive B G S p k e
gives_before kept p k Undrawn h = h
gives_before kept p k Held h = h
gives_before kept p k (Done r) h =
    (h.0, h.1, sound_moves _ _ (λ v d. ((steady_of kept).driving v d).0) p k r.outcome h.2)
gives_before kept p k (Lost ResetFailed) h = (h.0, (kept.resetting h.0).0 h.1)
gives_before kept p k (Lost NoThread) h = h
gives_before kept p k (Lost NoMemory) h = h

not_memory : fault.ResetFailed ≡ fault.NoMemory → ⊥
not_memory e = cc

-- a fault of a trial is a loss that the system may give
pub gives_loss : (A : Answers) (F : Fails) (R : ResetFails) (p : PlanView) (k : ℕ) (f : DriveFault)
    → MayFail (λ v x. IsDriveFault R v.case x) f → MayGive A F R p k (Lost (cause_of f))
gives_loss A F R p k fault.ResetFailed (inl h) = h.1
gives_loss A F R p k fault.ResetFailed (inr e) = absurd (not_memory e)
gives_loss A F R p k fault.NoThread h = tt
gives_loss A F R p k fault.NoMemory h = tt
