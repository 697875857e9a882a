-- The words for the faults of driving.
use Rattle.std.specs.Prelude.{ℕ, List, codes}
use Rattle.pst_driver.specs.declared.driving.DriveFault.{DriveFault}
use Rattle.pst_driver.specs.declared.driving.DriveFault.TheVariants.{ResetFailed, NoThread, NoMemory}

-- the bytes of a fault's name
abbrev pub fault_name : DriveFault → List ℕ
fault_name ResetFailed = codes "ResetFailed"
fault_name NoThread = codes "NoThread"
fault_name NoMemory = codes "NoMemory"
