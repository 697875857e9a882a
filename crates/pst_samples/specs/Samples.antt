-- What the sample systems answer to which call, and which calls they refuse.
use Rattle.std.specs.Prelude.{◌≡◌, pos, codes, true, ◌⊎◌}
use Rattle.pst_system.specs.declared.system.RealCall.{RealCall}
use Rattle.pst_system.specs.declared.system.CallFault.{CallFault}
use Rattle.pst_system.specs.declared.system.CallFault.TheVariants.{Refused, NoMemory, OutcomeUnknown}
use Rattle.pst_value.specs.declared.value.Value.{Value}
use Rattle.pst_value.specs.declared.value.Value.TheVariants as form
use Rattle.pst_samples.specs.Calls.{IsBare, IsNumbered, IsMeet, IsInt, IsBool, IsListOfAtMostOneInt}

-- `inc` or `get`
abbrev pub IsCount : RealCall → Type 0
IsCount c = IsBare (codes "inc") c ⊎ IsBare (codes "get") c

-- `counter` and `racy`: an integer
abbrev pub counter_answers : RealCall → Value → Type 0
counter_answers c v = IsCount c × IsInt v

-- `counter` and `racy`: each call can be refused but `get`
abbrev pub counter_fails : RealCall → CallFault → Type 0
counter_fails c f = (f ≡ Refused) × (IsBare (codes "get") c → ⊥)

-- `stuck`: 0
abbrev pub stuck_answers : RealCall → Value → Type 0
stuck_answers c v = IsCount c × (v ≡ form.Int (pos 0))

-- `stuck`: other calls are refused
abbrev pub stuck_fails : RealCall → CallFault → Type 0
stuck_fails c f = (f ≡ Refused) × (IsCount c → ⊥)

-- `new`, `close h` or `read h`
abbrev pub IsOfRegistry : RealCall → Type 0
IsOfRegistry c = IsBare (codes "new") c ⊎ IsNumbered (codes "close") c ⊎ IsNumbered (codes "read") c

-- `registry`: an integer to `new` and `read`, a truth value to `close`
abbrev pub registry_answers : RealCall → Value → Type 0
registry_answers c v =
    (IsBare (codes "new") c × IsInt v) ⊎ (IsNumbered (codes "close") c × IsBool v)
    ⊎ (IsNumbered (codes "read") c × IsInt v)

-- `registry`: other calls are refused, and its own can be refused memory
abbrev pub registry_fails : RealCall → CallFault → Type 0
registry_fails c Refused = IsOfRegistry c → ⊥
registry_fails c NoMemory = IsOfRegistry c
registry_fails c OutcomeUnknown = ⊥

-- `queue`: true to `put`, a list of at most one integer to `take`
abbrev pub queue_answers : RealCall → Value → Type 0
queue_answers c v =
    (IsNumbered (codes "put") c × (v ≡ form.Bool true)) ⊎ (IsBare (codes "take") c × IsListOfAtMostOneInt v)

-- `queue`: each call can be refused but `take`, and its own can be refused memory
abbrev pub queue_fails : RealCall → CallFault → Type 0
queue_fails c Refused = IsBare (codes "take") c → ⊥
queue_fails c NoMemory = IsNumbered (codes "put") c ⊎ IsBare (codes "take") c
queue_fails c OutcomeUnknown = ⊥

-- `meet`: a truth value
abbrev pub meet_answers : RealCall → Value → Type 0
meet_answers c v = IsMeet c × IsBool v

-- `meet`: other calls are refused
abbrev pub meet_fails : RealCall → CallFault → Type 0
meet_fails c f = (f ≡ Refused) × (IsMeet c → ⊥)
