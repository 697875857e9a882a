use Rattle.std.proofs.Common.{◌≡◌, ◌+◌, ◌++◌, length, drop}
use Rattle.pst_case.specs.Shape.{joined}
use Rattle.pst_shrink.specs.Candidates.{moves, first_of_branches}
use Rattle.pst_shrink.proofs.candidate.cases_with_command_moved_to_prefix.Given as goal

abbrev pub invariant-loop-branch : goal.invariant-loop-branch
invariant-loop-branch l = record {
  room : l.first + length (joined (drop l.branch-index l.case.branches))
      ≡ first_of_branches l.case + length (joined l.case.branches);
  same : l.all ++ moves l.case l.first (drop l.branch-index l.case.branches)
      ≡ moves l.case (first_of_branches l.case) l.case.branches;
}
