-- Faults, and what a function answers that may be refused memory.
use Rattle.std.specs.Prelude.{◌≡◌, ℕ, ◌⊎◌, List, Result, Ok, Err, ◌++◌, codes, decimal}
use Rattle.pst_sexpr.specs.declared.reader.SexprFault.{SexprFault}
use Rattle.pst_sexpr.specs.declared.reader.FaultKind.{FaultKind}
use Rattle.pst_sexpr.specs.declared.reader.FaultKind.TheVariants.{BadByte, UnclosedText, UnclosedNode, StrayClose, TooDeep, TooLarge, NoMemory}

-- the bytes of a kind's name
abbrev pub name_of : FaultKind → List ℕ
name_of BadByte = codes "BadByte"
name_of UnclosedText = codes "UnclosedText"
name_of UnclosedNode = codes "UnclosedNode"
name_of StrayClose = codes "StrayClose"
name_of TooDeep = codes "TooDeep"
name_of TooLarge = codes "TooLarge"
name_of NoMemory = codes "NoMemory"

-- how a fault is printed, as `BadByte at 2`
abbrev pub text_of : SexprFault → List ℕ
text_of fault = name_of fault.kind ++ codes " at " ++ decimal fault.place

-- the fault of a reader that was refused memory
abbrev pub no_memory : SexprFault
no_memory = record { kind = NoMemory; place = 0 }

-- What a function answered, its Ok seen by view, is what the definition gives, unless memory was refused.
abbrev pub Gives : {X Y : Type 0} → (X → Y) → Result X SexprFault → Result Y SexprFault → Type 0
Gives view (Ok x) defined = defined ≡ Ok (view x)
Gives view (Err fault) defined = (fault ≡ no_memory) ⊎ (defined ≡ Err fault)
