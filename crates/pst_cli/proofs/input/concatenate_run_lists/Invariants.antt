use Rattle.std.proofs.Common.{◌≡◌}
use Rattle.pst_rejudge.specs.Parts.{joined}
use Rattle.pst_cli.proofs.input.concatenate_run_lists.Given as goal

abbrev pub invariant-loop-part : goal.invariant-loop-part
invariant-loop-part l = l.runs.items ≡ joined l.yielded
