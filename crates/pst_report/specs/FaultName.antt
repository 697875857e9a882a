-- The words for the faults of a report.
use Rattle.std.specs.Prelude.{ℕ, List, codes}
use Rattle.pst_report.specs.declared.writer.ReportFault.{ReportFault}
use Rattle.pst_report.specs.declared.writer.ReportFault.TheVariants.{WriteFailed, NoMemory}

abbrev pub fault_name : ReportFault → List ℕ
fault_name WriteFailed = codes "WriteFailed"
fault_name NoMemory = codes "NoMemory"
