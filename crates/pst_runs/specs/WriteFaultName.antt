-- The words that are printed for the faults of writing.
use Rattle.std.specs.Prelude.{ℕ, List, codes}
use Rattle.pst_runs.specs.declared.write.writer.WriteFault.{WriteFault}
use Rattle.pst_runs.specs.declared.write.writer.WriteFault.TheVariants.{WriteFailed, NoMemory}

abbrev pub fault_name : WriteFault → List ℕ
fault_name WriteFailed = codes "WriteFailed"
fault_name NoMemory = codes "NoMemory"
