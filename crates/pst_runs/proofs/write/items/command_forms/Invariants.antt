use Rattle.std.proofs.Common.{◌≡◌, map, take}
use Rattle.pst_runs.specs.Written.{command_form}
use Rattle.pst_runs.proofs.write.items.command_forms.Given as goal

abbrev pub invariant-loop-command : goal.invariant-loop-command
invariant-loop-command l = l.forms ≡ map (command_form l.model) (take l.command-index l.commands)
