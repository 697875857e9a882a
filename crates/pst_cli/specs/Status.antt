-- The exit status of the process.
use Rattle.std.specs.Prelude.{ℕ, nat_lt, if◌then◌else◌}
use Rattle.pst_cli.specs.declared.answer.Status.{Status}
use Rattle.pst_cli.specs.declared.answer.Status.TheVariants.{Accepted, Failed, Refused, Lost}

abbrev pub code_of : Status → ℕ
code_of Accepted = 0
code_of Failed = 1
code_of Refused = 2
code_of Lost = 3

-- of two endings the one with the greater code
abbrev pub or_worse : Status → Status → Status
or_worse status other = if nat_lt (code_of status) (code_of other) then other else status
