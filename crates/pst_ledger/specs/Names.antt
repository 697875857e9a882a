-- The words for causes and faults.
use Rattle.std.specs.Prelude.{ℕ, List, codes}
use Rattle.pst_ledger.specs.declared.entry.Cause.{Cause}
use Rattle.pst_ledger.specs.declared.entry.Cause.TheVariants.{ResetFailed, NoThread, NoMemory}
use Rattle.pst_ledger.specs.declared.ledger.CloseFault.{CloseFault}
use Rattle.pst_ledger.specs.declared.ledger.CloseFault.TheVariants.{MissingSeat}
use Rattle.pst_ledger.specs.declared.ledger.LedgerFault.{LedgerFault}
use Rattle.pst_ledger.specs.declared.ledger.LedgerFault.TheVariants.{NotYours, Twice}

-- the bytes of a cause's name
abbrev pub cause_name : Cause → List ℕ
cause_name ResetFailed = codes "ResetFailed"
cause_name NoThread = codes "NoThread"
cause_name NoMemory = codes "NoMemory"

-- the bytes of a ledger fault's name
abbrev pub ledger_fault_name : LedgerFault → List ℕ
ledger_fault_name NotYours = codes "NotYours"
ledger_fault_name Twice = codes "Twice"

-- the bytes of a close fault's name
abbrev pub close_fault_name : CloseFault → List ℕ
close_fault_name MissingSeat = codes "MissingSeat"
