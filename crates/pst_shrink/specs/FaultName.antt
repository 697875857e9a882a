-- The names of the kinds of faults.
use Rattle.std.specs.Prelude.{ℕ, List, codes}
use Rattle.pst_shrink.specs.declared.shrinking.ShrinkFault.{ShrinkFault}
use Rattle.pst_shrink.specs.declared.shrinking.ShrinkFault.TheVariants.{Attempt, NoMemory}

-- the name of a fault's kind
abbrev pub fault_name : {F : Type 0} → ShrinkFault F → List ℕ
fault_name (Attempt fault) = codes "Attempt"
fault_name NoMemory = codes "NoMemory"
