-- Items that are drawn.
use Rattle.std.proofs.Common.{◌≡◌, ◌<◌, ℕ, zero, suc, List, [], ◌∷◌, length, get_or, ap, refl, arith}
use Rattle.pst_case.specs.declared.history.Run.{Run}
use Rattle.pst_cli.specs.Output.{AreJudged}
use Rattle.pst_judge.specs.Judgement.{IsJudgementBy}
use Rattle.pst_judge.specs.declared.by_order.CallOrder.{CallOrder}
use Rattle.pst_judge.specs.declared.judgement.Judged.{Judged}
use Rattle.pst_model.specs.declared.model.Source.{Source}

module _ (order : CallOrder) (m : Source) where
  -- there are as many judgements as items
  pub same_length : (runs : List Run) (js : List Judged) → AreJudged order m runs js → length runs ≡ length js
  same_length [] [] h = refl
  same_length [] (j ∷ js) h = absurd h
  same_length (run ∷ runs) [] h = absurd h
  same_length (run ∷ runs) (j ∷ js) h = ap suc (same_length runs js h.1)

  -- the judgement at an index is that of the item there
  pub judged_at : (runs : List Run) (js : List Judged) (i : ℕ) (d : Run) (e : Judged) → i < length runs → i < length js
      → AreJudged order m runs js → IsJudgementBy order m (get_or runs i d) (get_or js i e)
  judged_at [] js i d e h k all = absurd (omega arith)
  judged_at (run ∷ runs) [] i d e h k all = absurd all
  judged_at (run ∷ runs) (j ∷ js) zero d e h k all = all.0
  judged_at (run ∷ runs) (j ∷ js) (suc i) d e h k all = judged_at runs js i d e (omega arith) (omega arith) all.1
