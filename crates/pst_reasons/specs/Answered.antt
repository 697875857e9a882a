-- Recorded runs whose replies are all values, and those with calls of unknown outcome.
use Rattle.std.specs.Prelude.{◌≡◌, ℕ, Bool, true, List, None}
use Rattle.pst_case.specs.Matches.{matches}
use Rattle.pst_case.specs.OfModel.{OfModel}
use Rattle.pst_case.specs.Recorded.{recorded}
use Rattle.pst_case.specs.declared.history.History.{History}
use Rattle.pst_grid.specs.Orders.{NeverBlocks}
use Rattle.pst_judge.specs.Replay.{branch_lengths}
use Rattle.pst_judge.specs.Unknown.{calls_order}
use Rattle.pst_judge.specs.UnknownCalls.{broken_command, column_lengths}
use Rattle.pst_judge.specs.Verdict.{first_broken}
use Rattle.pst_model.specs.declared.model.Source.{Source}

-- the case is of the model, the history is one of the case, each of its replies is a value, and the order never
-- blocks: wherever commands of the branches are left, some branch that has one is open
pub record IsAnsweredRun (m : Source) (order : List ℕ → ℕ → Bool) (s : OfModel) (h : History) : Type 0 where
  pub of_model : s.model ≡ m
  pub of_case : matches m s.case h ≡ true
  pub answered : first_broken 1 (recorded h) ≡ None
  pub progress : NeverBlocks order (branch_lengths s.case)

-- the case is of the model, the history is one of the case, and the order of its calls never blocks unless a command is
-- broken: calls may have unknown outcomes
pub record IsRunOfCalls (m : Source) (order : List ℕ → ℕ → Bool) (s : OfModel) (h : History) : Type 0 where
  pub of_model : s.model ≡ m
  pub of_case : matches m s.case h ≡ true
  pub progress : broken_command m s.case h ≡ None → NeverBlocks (calls_order order s.case h) (column_lengths s.case h)
