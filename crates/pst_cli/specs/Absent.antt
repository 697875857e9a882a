-- What is written where there is no input, or no system.
use Rattle.std.specs.Prelude.{ℕ, List, ◌++◌, codes}
use Rattle.pst_cli.specs.Head.{line_end}
use Rattle.pst_cli.specs.Sending.{memory_line}
use Rattle.pst_cli.specs.declared.absent.Absence.{Absence}
use Rattle.pst_cli.specs.declared.absent.Absence.TheVariants.{NoFile, NoSystem, NoMemory}
use Rattle.pst_cli.specs.declared.answer.Status.{Status}
use Rattle.pst_cli.specs.declared.answer.Status.TheVariants.{Refused, Lost}

abbrev pub absence_line : Absence → List ℕ
absence_line NoFile = codes "refused file" ++ line_end
absence_line (NoSystem name) = codes "refused system " ++ (name.now ++ line_end)
absence_line NoMemory = memory_line

abbrev pub absence_status : Absence → Status
absence_status NoFile = Refused
absence_status (NoSystem name) = Refused
absence_status NoMemory = Lost
