-- Items that may be judged over a model.
use Rattle.std.specs.Prelude.{◌≡◌}
use Rattle.pst_case.specs.declared.history.Run.{Run}
use Rattle.pst_judge.specs.Judgement.{HistoryMatches}
use Rattle.pst_model.specs.declared.model.Source.{Source}

-- the case is one of the model, and the history, where there is one, matches the case
abbrev pub MayBeJudged : Source → Run → Type 0
MayBeJudged m run = (run.shaped.model ≡ m) × HistoryMatches m run
