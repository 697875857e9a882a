-- The names of faults.
use Rattle.std.specs.Prelude.{ℕ, List, ◌++◌, codes, decimal}
use Rattle.pst_syntax.specs.declared.fault.FaultKind.{FaultKind}
use Rattle.pst_syntax.specs.declared.fault.SyntaxFault.{SyntaxFault}
use Rattle.pst_syntax.specs.declared.fault.FaultKind.TheVariants.{UnknownForm, BadName, DoubleName, OverLimit, Missing, NoMemory}

-- the bytes of a kind's name
abbrev pub name_of : FaultKind → List ℕ
name_of UnknownForm = codes "UnknownForm"
name_of BadName = codes "BadName"
name_of DoubleName = codes "DoubleName"
name_of OverLimit = codes "OverLimit"
name_of Missing = codes "Missing"
name_of NoMemory = codes "NoMemory"

-- how a fault is printed, as `BadName item 2`
abbrev pub text_of : SyntaxFault → List ℕ
text_of fault = name_of fault.kind ++ codes " item " ++ decimal fault.item
