use Rattle.std.proofs.Common.{◌≡◌, take, map}
use Rattle.pst_case.specs.Renumber.{new_number, renumbered_command}
use Rattle.pst_case.proofs.renumber.renumber_commands.Given as goal

abbrev pub invariant-loop-command : goal.invariant-loop-command
invariant-loop-command l = l.all ≡ map (renumbered_command (new_number l.numbers)) (take l.command-index l.commands)
