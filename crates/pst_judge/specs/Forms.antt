-- How a value is kept.
use Rattle.std.specs.Prelude.{◌≡◌, ℕ, ℤ, List, [], Option, Some, None}
use Rattle.pst_judge.specs.Kept.{int_of, bytes_of}
use Rattle.pst_judge.specs.declared.packed.PackedForm.{PackedForm}
use Rattle.pst_judge.specs.declared.packed.PackedForm.TheVariants.{Int, Short, Long}
use Rattle.pst_value.specs.declared.value.Value.{Value}

-- the integer of a form, if it is one
abbrev pub int_in : PackedForm → Option ℤ
int_in (Int n) = Some n
int_in (Short bytes) = None
int_in (Long bytes) = None

-- the bytes of a form
abbrev pub bytes_in : PackedForm → List ℕ
bytes_in (Int n) = []
bytes_in (Short bytes) = bytes
bytes_in (Long bytes) = bytes.items

-- the form of a value has its integer, and its bytes
abbrev pub IsForm : PackedForm → Value → Type 0
IsForm form v = (int_in form ≡ int_of v) × (bytes_in form ≡ bytes_of v)
