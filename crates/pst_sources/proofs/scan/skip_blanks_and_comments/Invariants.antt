use Rattle.std.proofs.Common.{◌≡◌, ◌+◌, drop}
use Rattle.pst_sources.specs.declared.scan.State.TheVariants.{Between}
use Rattle.pst_sources.specs.Scanning.{blanks}
use Rattle.pst_sources.proofs.scan.skip_blanks_and_comments.Given as goal

abbrev pub invariant-loop-at : goal.invariant-loop-at
invariant-loop-at l = l.from + blanks Between (drop l.from l.input)
    ≡ l.at + blanks l.state (drop l.at l.input)
