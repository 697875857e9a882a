-- Laws of renumbering.
use Rattle.std.specs.Prelude.{◌≡◌, ℕ}
use Rattle.pst_case.specs.declared.case.Command.{Command}
use Rattle.pst_case.specs.Renumber.{renumbered, renumbered_command}
use Rattle.pst_value.specs.declared.value.Value.{Value}

-- where no number changes, no value and no command does
abbrev pub NumbersThatStay : Type 0
NumbersThatStay =
    (f : ℕ → ℕ) → ((n : ℕ) → f n ≡ n)
    → ((v : Value) → renumbered f v ≡ v) × ((c : Command) → renumbered_command f c ≡ c)
