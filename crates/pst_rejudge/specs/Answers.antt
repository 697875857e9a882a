-- What is answered of each item, where one that is refused leaves the others their verdicts.
use Rattle.std.specs.Prelude.{◌≡◌, ℕ, ◌+◌, List, [], ◌∷◌, Option, Some, None, Result, Ok, Err}
use Rattle.std.specs.List.{flat_map}
use Rattle.pst_case.specs.declared.history.Run.{Run}
use Rattle.pst_judge.specs.Judgement.{IsJudgementBy}
use Rattle.pst_judge.specs.declared.by_order.CallOrder.{CallOrder}
use Rattle.pst_judge.specs.declared.judgement.Judged as judgement
use Rattle.pst_model.specs.declared.model.Source.{Source}
use Rattle.pst_rejudge.specs.declared.reading.ItemResult.{ItemResult}
use Rattle.pst_rejudge.specs.declared.reading.ItemResult.TheVariants.{Judged, Refused}
use Rattle.pst_runs.specs.Items.{item_of}
use Rattle.pst_runs.specs.declared.reader.ItemFault.{ItemFault}
use Rattle.pst_runs.specs.declared.reader.RunFault.{RunFault}
use Rattle.pst_sexpr.specs.declared.form.Form.{Form}

-- the judgement on the run that a tree spells; or why the tree is refused
abbrev pub IsAnswer : CallOrder → Source → Form → ItemResult → Type 0
IsAnswer order m form (Judged judged) = (run : Run) × (item_of m form ≡ Ok run) × IsJudgementBy order m run judged
IsAnswer order m form (Refused kind command) = item_of m form ≡ Err (record { kind = kind; command = command })

-- the run, unless it is refused
abbrev pub run_read : Result Run ItemFault → Option Run
run_read (Ok run) = Some run
run_read (Err fault) = None

-- the run that a tree spells, unless the tree is refused
abbrev pub spelled_run : Source → Form → Option Run
spelled_run m form = run_read (item_of m form)

-- the judgement, unless the item is refused
abbrev pub judgement_in : ItemResult → List judgement.Judged
judgement_in (Judged judged) = judged ∷ []
judgement_in (Refused kind command) = []

-- the judgements on the items that are not refused, in their order
abbrev pub judgements_in : List ItemResult → List judgement.Judged
judgements_in = flat_map judgement_in

-- the refusal of the first refused item, where the first of all items has the number
abbrev pub first_refusal : ℕ → List ItemResult → Option RunFault
first_refusal number [] = None
first_refusal number (Judged judged ∷ answers) = first_refusal (number + 1) answers
first_refusal number (Refused kind command ∷ answers) = Some (record { run = number; command = command; kind = kind })
