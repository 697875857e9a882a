use Rattle.std.proofs.Common.{◌≡◌, ◌+◌, ◌++◌, map, drop}
use Rattle.pst_shrink.specs.Number.{renumber_command}
use Rattle.pst_shrink.specs.Candidates.{others}
use Rattle.pst_shrink.proofs.candidate.renumbered_commands_without.Given as goal

abbrev pub invariant-loop-command : goal.invariant-loop-command
invariant-loop-command l = record {
  number : l.next ≡ l.first + l.command-index;
  same : l.all ++ map (renumber_command l.numbers) (others l.number l.next (drop l.command-index l.commands))
      ≡ map (renumber_command l.numbers) (others l.number l.first l.commands);
}
