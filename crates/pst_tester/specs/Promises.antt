-- The relations of a system that promises nothing of its answers.
use Rattle.std.specs.Prelude.{⊤}
use Rattle.pst_system.specs.declared.system.RealCall.{RealCall}
use Rattle.pst_system.specs.declared.system.CallFault.{CallFault}
use Rattle.pst_value.specs.declared.value.Value.{Value}

-- any value to any call
abbrev pub any_value : {A : Type 0} → A → RealCall → Value → Type 0
any_value _ _ _ = ⊤

-- any fault of any call
abbrev pub any_fault : {A : Type 0} → A → RealCall → CallFault → Type 0
any_fault _ _ _ = ⊤

-- any fault of a reset
abbrev pub any_reset_fault : {A : Type 0} → A → CallFault → Type 0
any_reset_fault _ _ = ⊤
