use Rattle.std.proofs.Common.{◌≡◌, ◌++◌, take}
use Rattle.pst_driver.specs.Progress.{none_known}
use Rattle.pst_driver.proofs.branches.add_unknown_results_of_commands.Given as goal

abbrev pub invariant-loop-command : goal.invariant-loop-command
invariant-loop-command l = l.known.items ≡ l.fn.known.items ++ none_known (take l._command-index l.commands)
