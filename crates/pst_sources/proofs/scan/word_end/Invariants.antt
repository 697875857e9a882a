use Rattle.std.proofs.Common.{◌≡◌, ◌+◌, drop}
use Rattle.pst_sources.specs.Scanning.{word_bytes}
use Rattle.pst_sources.proofs.scan.word_end.Given as goal

abbrev pub invariant-loop-at : goal.invariant-loop-at
invariant-loop-at l = l.from + word_bytes (drop l.from l.input) ≡ l.at + word_bytes (drop l.at l.input)
