use Rattle.std.proofs.Common.{◌≡◌}
use Rattle.pst_runs.specs.Reading.{readable_part}
use Rattle.pst_runs.proofs.reading.keep_known_commands_of_part.Given as goal

abbrev pub invariant-loop-command : goal.invariant-loop-command
invariant-loop-command l = l.readable ≡ readable_part l.yielded
