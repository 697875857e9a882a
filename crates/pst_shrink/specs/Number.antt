-- New numbers for the commands of a case that changes.
use Rattle.std.specs.Prelude.{ℕ, ◌+◌, ◌-◌, ◌==◌, ◌&&◌, nat_lt, nat_le, if◌then◌else◌, List, map}
use Rattle.std.specs.List.{range_with_len}
use Rattle.pst_case.specs.declared.case.Case.{Case}
use Rattle.pst_case.specs.declared.case.Command.{Command}
use Rattle.pst_case.specs.Renumber.{new_number, renumbered_command}
use Rattle.pst_shrink.specs.declared.candidate.Renumbering.{Renumbering}
use Rattle.pst_shrink.specs.declared.candidate.Renumbering.TheVariants.{Without, Moved}

-- The new number of a command: where one is left out, those behind it come one earlier; where one moves to an
-- earlier place, those from that place up to its old one come one later.
abbrev pub number_by : Renumbering → ℕ → ℕ
number_by (Without left_out) n = if nat_lt left_out n then n - 1 else n
number_by (Moved from to) n =
    if n == from then to else if nat_le to n && nat_lt n from then n + 1 else n

-- the new numbers of the commands 1, 2, and so on, of so many
abbrev pub numbers_by : Renumbering → ℕ → List ℕ
numbers_by by count = map (number_by by) (range_with_len 1 count)

-- a command with new numbers in its variables and references: a number of no command stays
abbrev pub renumber_command : List ℕ → Command → Command
renumber_command numbers = renumbered_command (new_number numbers)

-- a case with new numbers in the variables and references of each command
abbrev pub renumber_case : List ℕ → Case → Case
renumber_case numbers c =
    record {
      prefix = map (renumber_command numbers) c.prefix;
      branches = map (map (renumber_command numbers)) c.branches;
      suffix = map (renumber_command numbers) c.suffix;
    }
