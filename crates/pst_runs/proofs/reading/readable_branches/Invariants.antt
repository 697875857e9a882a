use Rattle.std.proofs.Common.{◌≡◌, map}
use Rattle.pst_runs.specs.Reading.{readable_part}
use Rattle.pst_runs.proofs.reading.readable_branches.Given as goal

abbrev pub invariant-loop-branch : goal.invariant-loop-branch
invariant-loop-branch l = l.readable ≡ map readable_part l.yielded
