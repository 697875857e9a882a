-- The run of a burst that counts.
use Rattle.std.specs.Prelude.{◌≡◌, true, All, List, [], ◌∷◌, ◌++◌}
use Rattle.pst_case.specs.declared.case.Case.{Case}
use Rattle.pst_case.specs.declared.history.History.{History}
use Rattle.pst_judge.specs.ByOrder.{IsVerdictBy}
use Rattle.pst_judge.specs.declared.by_order.CallOrder.{CallOrder}
use Rattle.pst_judge.specs.declared.judgement.Verdict.{Verdict}
use Rattle.pst_model.specs.declared.model.Source.{Source}
use Rattle.pst_trial.specs.JudgedRuns.{is_explained}
use Rattle.pst_trial.specs.declared.record.JudgedRun.{JudgedRun}

module _ (m : Source) (order : CallOrder) (c : Case) where
  -- a history whose verdict is that it is explained
  pub record IsExplainedHistory (h : History) : Type 0 where
    pub verdict : Verdict
    pub judged : IsVerdictBy order m c h verdict
    pub explained : is_explained verdict ≡ true

  -- the run of the first of these histories that is not explained, or of the last if all are
  pub record IsRunOfBurst (hs : List History) (r : JudgedRun) : Type 0 where
    pub before : List History
    pub after : List History
    pub place : hs ≡ before ++ r.history ∷ after
    pub earlier : All IsExplainedHistory before
    pub ends : is_explained r.verdict ≡ true → after ≡ []
