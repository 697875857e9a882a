-- The words that are printed for the faults of runs.
use Rattle.std.specs.Prelude.{ℕ, List, ◌++◌, codes, decimal}
use Rattle.pst_case.specs.FaultName as of_case
use Rattle.pst_runs.specs.declared.reader.RunFault.{RunFault}
use Rattle.pst_runs.specs.declared.reader.RunFaultKind.{RunFaultKind}
use Rattle.pst_runs.specs.declared.reader.RunFaultKind.TheVariants.{Case, BadReply, NotAFit, BadForm, BadTimes}

abbrev pub fault_name : RunFaultKind → List ℕ
fault_name (Case kind) = of_case.fault_name kind
fault_name BadReply = codes "BadReply"
fault_name NotAFit = codes "NotAFit"
fault_name BadForm = codes "BadForm"
fault_name BadTimes = codes "BadTimes"

-- how a fault is printed, as `1 command 3 CrossVar`
abbrev pub text_of : RunFault → List ℕ
text_of fault =
    decimal fault.run ++ codes " command " ++ decimal fault.command ++ codes " " ++ fault_name fault.kind
