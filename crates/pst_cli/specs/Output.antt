-- The outputs of the program: a text and a status, for an input.
use Rattle.std.specs.Prelude.{◌≡◌, ℕ, ◌+◌, Bool, true, false, if◌then◌else◌, List, [], ◌∷◌, ◌++◌, Ok, Err, codes, decimal}
use Rattle.std.specs.List.{list_all}
use Rattle.pst_case.specs.declared.history.Run.{Run}
use Rattle.pst_cli.specs.Head.{refusal_line, line_end}
use Rattle.pst_typing.specs.Loading.{Holds, items_of, IsRefusal}
use Rattle.pst_typing.specs.declared.loading.Refusal.{Refusal}
use Rattle.pst_cli.specs.declared.lines.Shown.{Shown}
use Rattle.pst_cli.specs.declared.lines.Shown.TheVariants as shown
use Rattle.pst_cli.specs.declared.answer.Status.{Status}
use Rattle.pst_cli.specs.declared.answer.Status.TheVariants.{Accepted, Failed, Refused}
use Rattle.pst_judge.specs.JudgedText.{judged_text}
use Rattle.pst_judge.specs.Judgement.{IsJudgementBy}
use Rattle.pst_judge.specs.declared.by_order.CallOrder.{CallOrder}
use Rattle.pst_judge.specs.declared.by_order.CallOrder.TheVariants.{Any}
use Rattle.pst_judge.specs.declared.judgement.Judged.{Judged}
use Rattle.pst_judge.specs.declared.judgement.Judged.TheVariants as kind
use Rattle.pst_judge.specs.declared.judgement.Verdict.{Verdict}
use Rattle.pst_judge.specs.declared.judgement.Verdict.TheVariants.{Explained, Faulted, Unexplained, Broken}
use Rattle.pst_model.specs.declared.model.Source.{Source}
use Rattle.pst_runs.specs.Items.{runs_of}
use Rattle.pst_runs.specs.FaultName as runs
use Rattle.pst_runs.specs.declared.reader.RunFault.{RunFault}
use Rattle.pst_sexpr.specs.declared.form.Form.{Form}

-- ---- `pst check`

abbrev pub ok_line : Source → List ℕ
ok_line m = codes "ok " ++ m.name ++ line_end

-- `ok NAME` for a well-typed model, or its first refusal
pub data IsCheckOutput (input text : List ℕ) (status : Status) : Type 0 where
  accepted : (m : Source) (trees : List Form) → Holds input m trees → text ≡ ok_line m → status ≡ Accepted
      → IsCheckOutput input text status
  refused : (refusal : Refusal) → IsRefusal input refusal → text ≡ refusal_line refusal → status ≡ Refused
      → IsCheckOutput input text status

-- ---- the items of an input, and the judgements on them

-- the input is a file of the model, which is well typed, and behind it of the runs
pub record HoldsRuns (input : List ℕ) (m : Source) (runs : List Run) : Type 0 where
  pub trees : List Form
  pub holds : Holds input m trees
  pub read : runs_of m (items_of trees) ≡ Ok runs

abbrev pub run_line : RunFault → List ℕ
run_line fault = codes "refused run " ++ runs.text_of fault ++ line_end

-- each run is judged so by an order of the calls, one after another
abbrev pub AreJudged : CallOrder → Source → List Run → List Judged → Type 0
AreJudged order m [] [] = Unit {0}
AreJudged order m [] (j ∷ js) = ⊥
AreJudged order m (run ∷ runs) [] = ⊥
AreJudged order m (run ∷ runs) (j ∷ js) = IsJudgementBy order m run j × AreJudged order m runs js

-- `NUMBER VERDICT`
abbrev pub item_line : ℕ → Judged → List ℕ
item_line number j = decimal number ++ codes " " ++ judged_text j ++ line_end

-- the lines of items, the first of which has the number
abbrev pub item_lines : ℕ → List Judged → List ℕ
item_lines number [] = []
item_lines number (j ∷ js) = item_line number j ++ item_lines (number + 1) js

abbrev pub is_explained : Verdict → Bool
is_explained (Explained word) = true
is_explained (Faulted place) = false
is_explained (Unexplained far) = false
is_explained (Broken command) = false

-- explained or valid
abbrev pub is_good : Judged → Bool
is_good (kind.Verdict verdict) = is_explained verdict
is_good kind.Valid = true
is_good (kind.Invalid why) = false

-- Accepted where it is explained or valid
abbrev pub status_of_one : Judged → Status
status_of_one j = if is_good j then Accepted else Failed

-- Accepted where all items are explained or valid
abbrev pub status_of : List Judged → Status
status_of js = if list_all is_good js then Accepted else Failed

-- ---- what is written of an input whose items are judged

-- the first refusal: that of the model, or else that of the first refused item
pub data IsFirstRefusal (input text : List ℕ) (status : Status) : Type 0 where
  of_model : (refusal : Refusal) → IsRefusal input refusal → text ≡ refusal_line refusal → status ≡ Refused
      → IsFirstRefusal input text status
  of_item : (m : Source) (trees : List Form) (fault : RunFault) → Holds input m trees
      → runs_of m (items_of trees) ≡ Err fault
      → text ≡ run_line fault → status ≡ Refused → IsFirstRefusal input text status

-- what is said of the judgements on all items; or the first refusal
pub data IsOutput (order : CallOrder) (OfJudged : List Judged → List ℕ → Status → Type 0) (input text : List ℕ)
    (status : Status) : Type 0 where
  judged : (m : Source) (runs : List Run) (js : List Judged) → HoldsRuns input m runs → AreJudged order m runs js
      → OfJudged js text status → IsOutput order OfJudged input text status
  refused : IsFirstRefusal input text status → IsOutput order OfJudged input text status

-- ---- `pst judge`

-- a line for each item, from 1, with the status of the judgements
abbrev pub AreItemLines : List Judged → List ℕ → Status → Type 0
AreItemLines js text status = (text ≡ item_lines 1 js) × (status ≡ status_of js)

abbrev pub IsJudgeOutput : List ℕ → List ℕ → Status → Type 0
IsJudgeOutput input text status = IsOutput Any AreItemLines input text status

-- ---- `pst judge --failures`

-- the line of an item; nothing where it is explained or valid
abbrev pub failure_line : ℕ → Judged → List ℕ
failure_line number j = if is_good j then [] else item_line number j

-- the lines of those items that are neither explained nor valid, where the first of all items has the number
abbrev pub failure_lines : ℕ → List Judged → List ℕ
failure_lines number [] = []
failure_lines number (j ∷ js) = failure_line number j ++ failure_lines (number + 1) js

-- the lines of all items, or of those that are neither explained nor valid, each with its number from 1
abbrev pub shown_lines : Shown → List Judged → List ℕ
shown_lines shown.All js = item_lines 1 js
shown_lines shown.Failures js = failure_lines 1 js

-- these lines, with the status of the judgements on all items
abbrev pub AreShownLines : Shown → List Judged → List ℕ → Status → Type 0
AreShownLines which js text status = (text ≡ shown_lines which js) × (status ≡ status_of js)

-- what `pst judge` writes, and with `--failures`; of all items it is in any order `IsJudgeOutput`
abbrev pub IsShownOutput : CallOrder → Shown → List ℕ → List ℕ → Status → Type 0
IsShownOutput order which input text status = IsOutput order (AreShownLines which) input text status
