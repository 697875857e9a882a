-- New numbers for the commands that values name.
use Rattle.std.specs.Prelude.{ℕ, List, map, Option, Some, None}
use Rattle.pst_case.specs.declared.case.Command.{Command}
use Rattle.pst_value.specs.Subst.{numbered}
use Rattle.pst_value.specs.declared.value.Value.{Value, fold-Value, Int, Bool, Text, Tuple, List as ListOf, Map as MapOf, Var, Ref, Call}
use Rattle.pst_value.specs.declared.value.Value.TheOpen.{Value-F}

abbrev pub or_the_same : ℕ → Option ℕ → ℕ
or_the_same n None = n
or_the_same n (Some new) = new

-- the new number of a command, where the list has those of commands 1, 2, and so on: a number of no command
-- stays
abbrev pub new_number : List ℕ → ℕ → ℕ
new_number numbers n = or_the_same n (numbered numbers n)

abbrev pub renumbered_level : (ℕ → ℕ) → Value-F Value → Value
renumbered_level f (Value-F.Int n) = Int n
renumbered_level f (Value-F.Bool b) = Bool b
renumbered_level f (Value-F.Text t) = Text t
renumbered_level f (Value-F.Tuple items) = Tuple items
renumbered_level f (Value-F.List items) = ListOf items
renumbered_level f (Value-F.Map keys values) = MapOf keys values
renumbered_level f (Value-F.Var n) = Var (f n)
renumbered_level f (Value-F.Ref n v) = Ref (f n) v
renumbered_level f (Value-F.Call op args) = Call op args

-- each Var n becomes Var of the new number, and each Ref n likewise, at every depth
unfoldable pub renumbered : (ℕ → ℕ) → Value → Value
renumbered f = fold-Value Value (renumbered_level f)

-- a command with its arguments renumbered
abbrev pub renumbered_command : (ℕ → ℕ) → Command → Command
renumbered_command f c = record { op = c.op; args = map (renumbered f) c.args }
