-- The faults of calls: their names, and which leaves open whether the call took effect.
use Rattle.std.specs.Prelude.{ℕ, Bool, true, false, List, codes}
use Rattle.pst_system.specs.declared.system.CallFault.{CallFault}
use Rattle.pst_system.specs.declared.system.CallFault.TheVariants.{Refused, NoMemory, OutcomeUnknown}

-- the bytes of a fault's name
abbrev pub fault_name : CallFault → List ℕ
fault_name Refused = codes "Refused"
fault_name NoMemory = codes "NoMemory"
fault_name OutcomeUnknown = codes "OutcomeUnknown"

-- whether the outcome of the call is unknown
abbrev pub is_outcome_unknown : CallFault → Bool
is_outcome_unknown Refused = false
is_outcome_unknown NoMemory = false
is_outcome_unknown OutcomeUnknown = true
