-- The histories of a burst.
use Rattle.std.specs.Prelude.{◌≡◌, true, None}
use Rattle.pst_case.specs.Matches.{matches}
use Rattle.pst_case.specs.OfModel.{OfModel}
use Rattle.pst_case.specs.declared.history.History.{History}
use Rattle.pst_driver.specs.Driven.{IsDriven}
use Rattle.pst_system.specs.Kept.{Answers, Fails}

-- a history of a case that a system with these relations drove by itself: it has no times
pub record IsBurstHistory (answers : Answers) (fails : Fails) (v : OfModel) (h : History) : Type 0 where
  pub matching : matches v.model v.case h ≡ true
  pub untimed : h.times ≡ None
  pub driven : IsDriven v.model answers fails v.case h
