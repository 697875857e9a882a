-- Runs that may be judged.
use Rattle.std.proofs.Common.{◌<◌, ℕ, zero, suc, List, [], ◌∷◌, length, get_or, arith}
use Rattle.std.specs.Prelude.{All}
use Rattle.pst_case.specs.declared.history.Run.{Run}
use Rattle.pst_model.specs.declared.model.Source.{Source}
use Rattle.pst_rejudge.proofs.One.{matches_if_any}
use Rattle.pst_rejudge.specs.Judging.{MayBeJudged}
use Rattle.pst_runs.specs.Lawful.{IsLawful, AreLawful}

module _ (m : Source) where
  -- the run at an index is lawful
  pub lawful_at : (runs : List Run) (i : ℕ) (d : Run) → i < length runs → AreLawful m runs → IsLawful m (get_or runs i d)
  lawful_at [] i d h l = absurd (omega arith)
  lawful_at (run ∷ runs) zero d h l = l.0
  lawful_at (run ∷ runs) (suc i) d h l = lawful_at runs i d (omega arith) l.1

  -- lawful runs may be judged
  pub may_be_judged : (runs : List Run) → AreLawful m runs → All (MayBeJudged m) runs
  may_be_judged runs l i d h =
      let run = lawful_at runs i d h l in
      let at = get_or runs i d in
      (run.model, matches_if_any m at.shaped.case at.history run.matching)
