use Rattle.std.proofs.Common.{◌≡◌, ◌+◌, ◌++◌, drop, string_bytes}
use Rattle.pst_cli.specs.Output.{failure_lines}
use Rattle.pst_cli.proofs.lines.failed_item_verdict_lines.Given as goal

abbrev pub invariant-loop-index : goal.invariant-loop-index
invariant-loop-index l =
    failure_lines 1 l.all ≡ string_bytes l.text ++ failure_lines (l.index + 1) (drop l.index l.all)
