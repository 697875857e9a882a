use Rattle.std.proofs.Common.{◌≡◌}
use Rattle.pst_shrink.specs.Candidates.{drops}
use Rattle.pst_shrink.proofs.candidate.cases_without_one_unused_command.Given as goal

abbrev pub invariant-loop-before : goal.invariant-loop-before
invariant-loop-before l = l.all ≡ drops l.case l.before
