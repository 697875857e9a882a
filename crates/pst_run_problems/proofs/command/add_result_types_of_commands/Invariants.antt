use Rattle.std.proofs.Common.{◌≡◌, ◌++◌, take, map}
use Rattle.pst_run_problems.proofs.command.add_result_types_of_commands.Given as goal
use Rattle.pst_run_problems.specs.ResultTypes.{result_type}

abbrev pub invariant-loop-command : goal.invariant-loop-command
invariant-loop-command l = l.types ≡ l.initial.types ++ map (result_type l.source) (take l.command-index l.commands)
