use Rattle.std.proofs.Common.{◌≡◌, ◌++◌, take, map}
use Rattle.pst_case.specs.Shape.{result_type}
use Rattle.pst_case.proofs.argument_checks.append_result_types.Given as goal

abbrev pub invariant-loop-command : goal.invariant-loop-command
invariant-loop-command l = l.types ≡ l.initial.types ++ map (result_type l.model) (take l.command-index l.commands)
