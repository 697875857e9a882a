use Rattle.std.proofs.Common.{◌≡◌, ◌+◌, ◌^◌, ◌<◌}
use Rattle.pst_shrink.specs.Weight.{weight}
use Rattle.pst_shrink.specs.Shrinking.{first_of, IsTrail}
use Rattle.pst_shrink.proofs.shrinking.shrink.Given as goal

abbrev pub invariant-rounds : goal.invariant-rounds
invariant-rounds g l = record {
  room : weight l.last.case + 1 < 2 ^ 32;
  begins : first_of l.before l.last ≡ record { case = l.fn.first; history = l.fn.history };
  trail : IsTrail (g.A.Attempt.answers l.fn.attempt) l.before l.last;
  drives : g.A.Attempt.driven l.attempt + l.left ≡ g.A.Attempt.driven l.fn.attempt + l.limit;
  keeps : g.A.Attempt.keeps l.fn.attempt l.attempt;
}

abbrev pub decreases-rounds : goal.decreases-rounds
decreases-rounds g l = weight l.last.case
