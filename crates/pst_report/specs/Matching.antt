-- Failures whose runs may be written.
use Rattle.std.specs.Prelude.{◌≡◌, true}
use Rattle.pst_case.specs.Matches.{matches}
use Rattle.pst_case.specs.Unknown.{times_of_calls}
use Rattle.pst_model.specs.declared.model.Source.{Source}
use Rattle.pst_report.specs.Kinds.{own_failure}
use Rattle.pst_shrink.specs.declared.shrinking.Shrunk.{Shrunk}
use Rattle.pst_shrink.specs.declared.shrinking.FailingCase.{FailingCase}
use Rattle.pst_trial.specs.declared.record.JudgedRun.{JudgedRun}

-- the history matches the case, and its times, where it has any, fit its calls
pub record IsMatching (m : Source) (t : FailingCase JudgedRun) : Type 0 where
  pub matching : matches m t.case t.history.history ≡ true
  pub timed : times_of_calls t.history.history ≡ t.history.history.times

-- so it is of the first and the last history
pub record AreMatching (m : Source) (s : Shrunk JudgedRun) : Type 0 where
  pub first : IsMatching m (own_failure s)
  pub last : IsMatching m s.last
