-- The names of the kinds of faults.
use Rattle.std.specs.Prelude.{ℕ, List, ◌++◌, codes, decimal}
use Rattle.pst_typing.specs.declared.loading.TypeFault.{TypeFault}
use Rattle.pst_typing.specs.declared.loading.TypeFault.TheVariants.{Item, NoMemory}

-- the name of a fault's kind
abbrev pub fault_name : TypeFault → List ℕ
fault_name (Item number) = codes "Item"
fault_name NoMemory = codes "NoMemory"

-- how a fault is printed, as `item 3`
abbrev pub text_of : TypeFault → List ℕ
text_of (Item number) = codes "item " ++ decimal number
text_of NoMemory = codes "NoMemory"
