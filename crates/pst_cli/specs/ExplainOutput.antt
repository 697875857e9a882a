-- What `pst explain` writes: its refusals and its status are those of `pst judge`, and it refuses an item that
-- there is none of.
use Rattle.std.specs.Prelude.{◌≡◌, ℕ, List}
use Rattle.pst_cli.specs.ChosenItem.{IsOfItem}
use Rattle.pst_cli.specs.Output.{IsOutput, status_of}
use Rattle.pst_cli.specs.declared.explain.ChosenItems.{ChosenItems}
use Rattle.pst_cli.specs.declared.explain.ChosenItems.TheVariants as chosen
use Rattle.pst_cli.specs.declared.answer.Status.{Status}
use Rattle.pst_judge.specs.declared.by_order.CallOrder.{CallOrder}
use Rattle.pst_judge.specs.declared.judgement.Judged.{Judged}

-- a text, of which nothing is said, with the status of the judgements; or the refusal of an item that there
-- is none of
abbrev pub IsExplanation : ChosenItems → List Judged → List ℕ → Status → Type 0
IsExplanation chosen.All js text status = status ≡ status_of js
IsExplanation chosen.Failures js text status = status ≡ status_of js
IsExplanation (chosen.Item number) js text status = IsOfItem number js text status

abbrev pub IsExplainOutput : CallOrder → List ℕ → ChosenItems → List ℕ → Status → Type 0
IsExplainOutput order input which text status = IsOutput order (IsExplanation which) input text status
