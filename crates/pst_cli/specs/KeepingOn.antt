-- The output of `pst judge --keep-going`: a text and a status, for an input.
use Rattle.std.specs.Prelude.{◌≡◌, ℕ, ◌+◌, Bool, false, if◌then◌else◌, List, [], ◌∷◌, ◌++◌, Ok}
use Rattle.std.specs.List.{AllZip}
use Rattle.pst_case.specs.declared.history.Run.{Run}
use Rattle.pst_cli.specs.Head.{refusal_line}
use Rattle.pst_cli.specs.Output.{AreJudged, is_good, item_line, item_lines, run_line, status_of, status_of_one}
use Rattle.pst_cli.specs.Status.{or_worse}
use Rattle.pst_cli.specs.declared.lines.Shown.{Shown}
use Rattle.pst_cli.specs.declared.lines.Shown.TheVariants as shown
use Rattle.pst_cli.specs.declared.answer.Status.{Status}
use Rattle.pst_cli.specs.declared.answer.Status.TheVariants.{Accepted, Refused}
use Rattle.pst_rejudge.specs.Answers.{IsAnswer}
use Rattle.pst_rejudge.specs.declared.reading.ItemResult.{ItemResult}
use Rattle.pst_rejudge.specs.declared.reading.ItemResult.TheVariants as answer
use Rattle.pst_judge.specs.declared.by_order.CallOrder.{CallOrder}
use Rattle.pst_judge.specs.declared.by_order.CallOrder.TheVariants.{Any}
use Rattle.pst_judge.specs.declared.judgement.Judged.{Judged}
use Rattle.pst_typing.specs.Loading.{Holds, items_of, IsRefusal}
use Rattle.pst_typing.specs.declared.loading.Refusal.{Refusal}
use Rattle.pst_model.specs.declared.model.Source.{Source}
use Rattle.pst_runs.specs.Items.{runs_of}
use Rattle.pst_sexpr.specs.declared.form.Form.{Form}

-- the input holds a model and these trees, and these are the answers to the items among them, in their order
pub record HoldsAnswers (order : CallOrder) (input : List ℕ) (m : Source) (trees : List Form) (answers : List ItemResult)
    : Type 0 where
  pub holds : Holds input m trees
  pub answered : AllZip (IsAnswer order m) (items_of trees) answers

-- `NUMBER VERDICT`, or `refused run NUMBER command C KIND`
abbrev pub answer_line : ℕ → ItemResult → List ℕ
answer_line number (answer.Judged judged) = item_line number judged
answer_line number (answer.Refused kind command) =
    run_line (record { run = number; command = command; kind = kind })

-- the lines of items, the first of which has the number
abbrev pub answer_lines : ℕ → List ItemResult → List ℕ
answer_lines number [] = []
answer_lines number (a ∷ answers) = answer_line number a ++ answer_lines (number + 1) answers

-- whether the item is explained or valid
abbrev pub is_good_answer : ItemResult → Bool
is_good_answer (answer.Judged judged) = is_good judged
is_good_answer (answer.Refused kind command) = false

-- the line of an item; nothing where it is explained or valid
abbrev pub failed_answer_line : ℕ → ItemResult → List ℕ
failed_answer_line number a = if is_good_answer a then [] else answer_line number a

-- the lines of those items that are neither explained nor valid, where the first of all items has the number
abbrev pub failed_answer_lines : ℕ → List ItemResult → List ℕ
failed_answer_lines number [] = []
failed_answer_lines number (a ∷ answers) =
    failed_answer_line number a ++ failed_answer_lines (number + 1) answers

-- the lines of all items, or of those that are neither explained nor valid, each with its number from 1
abbrev pub shown_answer_lines : Shown → List ItemResult → List ℕ
shown_answer_lines shown.All answers = answer_lines 1 answers
shown_answer_lines shown.Failures answers = failed_answer_lines 1 answers

-- Refused where the item is, else Accepted where it is explained or valid
abbrev pub answer_status : ItemResult → Status
answer_status (answer.Judged judged) = status_of_one judged
answer_status (answer.Refused kind command) = Refused

-- the worst of a status and those of items
abbrev pub worst_status : Status → List ItemResult → Status
worst_status so_far [] = so_far
worst_status so_far (a ∷ answers) = worst_status (or_worse so_far (answer_status a)) answers

-- the lines of the items, of all or with `--failures` of some: the verdict or the refusal of each; or the
-- refusal of the model. The status is that of all items.
pub data IsShownKeepingOn (order : CallOrder) (which : Shown) (input text : List ℕ) (status : Status) : Type 0 where
  answered : (m : Source) (trees : List Form) (answers : List ItemResult) → Holds input m trees
      → AllZip (IsAnswer order m) (items_of trees) answers
      → text ≡ shown_answer_lines which answers → status ≡ worst_status Accepted answers
      → IsShownKeepingOn order which input text status
  refused : (refusal : Refusal) → IsRefusal input refusal → text ≡ refusal_line refusal → status ≡ Refused
      → IsShownKeepingOn order which input text status

-- a line for each item, from 1: its verdict or its refusal; or the refusal of the model
abbrev pub IsKeepingOnOutput : List ℕ → List ℕ → Status → Type 0
IsKeepingOnOutput input text status = IsShownKeepingOn Any shown.All input text status

-- where no item is refused, the lines and the status of `pst judge` are those with `--keep-going`
abbrev pub KeepsJudgements : Type 0
KeepsJudgements =
    (order : CallOrder) (input : List ℕ) (m : Source) (trees : List Form) (runs : List Run) (js : List Judged)
    → Holds input m trees
    → runs_of m (items_of trees) ≡ Ok runs → AreJudged order m runs js
    → IsShownKeepingOn order shown.All input (item_lines 1 js) (status_of js)
