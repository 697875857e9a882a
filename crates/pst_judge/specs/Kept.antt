-- What is kept of a value.
use Rattle.std.specs.Prelude.{ℕ, ◌-◌, ℤ, List, [], ◌++◌, length, replicate, Option, Some, None}
use Rattle.pst_judge.specs.Codes.{code}
use Rattle.pst_value.specs.declared.value.Value.{Value, fold-Value}
use Rattle.pst_value.specs.declared.value.Value.TheOpen.{Value-F}

-- the integer that a value is, if it is one
abbrev pub int_level : Value-F (Option ℤ) → Option ℤ
int_level (Value-F.Int n) = Some n
int_level (Value-F.Bool _) = None
int_level (Value-F.Text _) = None
int_level (Value-F.Tuple _) = None
int_level (Value-F.List _) = None
int_level (Value-F.Map _ _) = None
int_level (Value-F.Var _) = None
int_level (Value-F.Ref _ _) = None
int_level (Value-F.Call _ _) = None

unfoldable pub int_of : Value → Option ℤ
int_of = fold-Value (Option ℤ) int_level

-- bytes with so many zeros behind them that they are 24 at least
abbrev pub padded : List ℕ → List ℕ
padded bytes = bytes ++ replicate (24 - length bytes) 0

abbrev pub bytes_as : List ℕ → Option ℤ → List ℕ
bytes_as bytes (Some n) = []
bytes_as bytes None = padded bytes

-- the bytes that are kept of a value: none of an integer, and of any other value its code
abbrev pub bytes_of : Value → List ℕ
bytes_of v = bytes_as (code v) (int_of v)
