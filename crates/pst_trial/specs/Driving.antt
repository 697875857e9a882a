-- What may be recorded of a case, whatever drives it.
use Rattle.std.specs.Prelude.{◌≡◌, ◌↔◌, true}
use Rattle.pst_case.specs.Matches.{matches}
use Rattle.pst_case.specs.OfModel.{OfModel}
use Rattle.pst_case.specs.Unknown.{times_of_calls}
use Rattle.pst_case.specs.declared.history.History.{History}
use Rattle.pst_driver.specs.declared.driving.DriveFault.{DriveFault}

-- which histories may be recorded of a case
abbrev pub Histories : Type 1
Histories = OfModel → History → Type 0

-- which faults driving a case may end with
abbrev pub Faults : Type 1
Faults = OfModel → DriveFault → Type 0

-- a history that may be recorded of a case: it matches the case, and its times fit its calls
pub record MayHaveDriven (may_drive : Histories) (v : OfModel) (h : History) : Type 0 where
  pub matching : matches v.model v.case h ≡ true
  pub timed : times_of_calls h ≡ h.times
  pub driven : may_drive v h

-- the two relations of a driver admit the same as before
pub record IsSteady (histories before : Histories) (faults failed : Faults) : Type 0 where
  pub driving : (v : OfModel) (h : History) → histories v h ↔ before v h
  pub failing : (v : OfModel) (f : DriveFault) → faults v f ↔ failed v f
