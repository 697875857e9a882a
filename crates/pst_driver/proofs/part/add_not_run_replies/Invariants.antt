use Rattle.std.proofs.Common.{◌≡◌, ◌++◌, take}
use Rattle.pst_driver.specs.Driven.{none_run}
use Rattle.pst_driver.proofs.part.add_not_run_replies.Given as goal

abbrev pub invariant-loop-command : goal.invariant-loop-command
invariant-loop-command l = l.replies ≡ l.fn.replies ++ none_run (take l._command-index l.commands)
