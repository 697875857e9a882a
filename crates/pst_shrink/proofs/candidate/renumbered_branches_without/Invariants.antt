use Rattle.std.proofs.Common.{◌≡◌, ◌+◌, ◌++◌, map, length, drop}
use Rattle.pst_case.specs.Shape.{joined}
use Rattle.pst_shrink.specs.Number.{renumber_command}
use Rattle.pst_shrink.specs.Candidates.{branch_others}
use Rattle.pst_shrink.proofs.candidate.renumbered_branches_without.Given as goal

abbrev pub invariant-loop-branch : goal.invariant-loop-branch
invariant-loop-branch l = record {
  room : l.next + length (joined (drop l.branch-index l.branches)) ≡ l.first + length (joined l.branches);
  same : l.all ++ map (map (renumber_command l.numbers)) (branch_others l.number l.next (drop l.branch-index l.branches))
      ≡ map (map (renumber_command l.numbers)) (branch_others l.number l.first l.branches);
}
