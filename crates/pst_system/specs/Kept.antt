-- What stays of a system, whatever is called.
use Rattle.std.specs.Prelude.{◌↔◌}
use Rattle.pst_system.specs.declared.system.CallFault.{CallFault}
use Rattle.pst_system.specs.declared.system.RealCall.{RealCall}
use Rattle.pst_value.specs.declared.value.Value.{Value}

-- which values a system may answer to a call
abbrev pub Answers : Type 1
Answers = RealCall → Value → Type 0

-- which faults a call of it may end with
abbrev pub Fails : Type 1
Fails = RealCall → CallFault → Type 0

-- which faults a reset of it may end with
abbrev pub ResetFails : Type 1
ResetFails = CallFault → Type 0

-- the three relations of a system admit the same as before
pub record AreKept (answers before : Answers) (fails failed : Fails) (reset_fails reset_failed : ResetFails) :
    Type 0 where
  pub answering : (c : RealCall) (v : Value) → answers c v ↔ before c v
  pub failing : (c : RealCall) (f : CallFault) → fails c f ↔ failed c f
  pub resetting : (f : CallFault) → reset_fails f ↔ reset_failed f
