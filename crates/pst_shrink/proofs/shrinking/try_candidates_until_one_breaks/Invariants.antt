use Rattle.std.proofs.Common.{◌≡◌, ◌+◌, length}
use Rattle.pst_shrink.specs.Candidates.{candidates}
use Rattle.pst_shrink.specs.Shrinking.{ArePassed}
use Rattle.pst_shrink.proofs.shrinking.try_candidates_until_one_breaks.Given as goal

abbrev pub invariant-loop-candidate : goal.invariant-loop-candidate
invariant-loop-candidate g l = record {
  passed : ArePassed (g.A.Attempt.answers l.fn.attempt) (candidates l.case) l.tried;
  count : length l.tried ≡ l.candidate-index;
  drives : g.A.Attempt.driven l.attempt + l.left ≡ g.A.Attempt.driven l.fn.attempt + l.limit;
  keeps : g.A.Attempt.keeps l.fn.attempt l.attempt;
}
