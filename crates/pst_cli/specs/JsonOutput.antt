-- The JSON that `pst judge` and `pst check` write: objects, each on a line of its own.
use Rattle.std.specs.Prelude.{◌≡◌, ℕ, ◌+◌, if◌then◌else◌, List, [], ◌∷◌, ◌++◌, codes}
use Rattle.std.specs.List.{AllZip}
use Rattle.pst_cli.specs.Head.{line_end}
use Rattle.pst_cli.specs.KeepingOn.{is_good_answer, worst_status}
use Rattle.pst_cli.specs.declared.lines.Shown.{Shown}
use Rattle.pst_cli.specs.declared.lines.Shown.TheVariants as shown
use Rattle.pst_cli.specs.declared.answer.Status.{Status}
use Rattle.pst_cli.specs.declared.answer.Status.TheVariants.{Accepted, Refused}
use Rattle.pst_judge.specs.declared.by_order.CallOrder.{CallOrder}
use Rattle.pst_rejudge.specs.Answers.{IsAnswer}
use Rattle.pst_rejudge.specs.declared.reading.ItemResult.{ItemResult}
use Rattle.pst_rejudge.specs.declared.reading.ItemResult.TheVariants as answer
use Rattle.pst_rejudge.specs.Objects.{object_line}
use Rattle.pst_rejudge.specs.Verdicts.{accepted_fields, judged_fields, refusal_fields, refused_fields}
use Rattle.pst_typing.specs.Loading.{Holds, items_of, IsRefusal}
use Rattle.pst_typing.specs.declared.loading.Refusal.{Refusal}
use Rattle.pst_model.specs.declared.model.Source.{Source}
use Rattle.pst_sexpr.specs.declared.form.Form.{Form}

-- the object of a refusal, on its line
abbrev pub refusal_object : Refusal → List ℕ
refusal_object refusal = object_line (refusal_fields refusal)

-- what is written if an allocation fails
abbrev pub memory_object : List ℕ
memory_object = codes "{\"verdict\":\"refused\",\"stage\":\"memory\"}" ++ line_end

-- ---- `pst judge --format json`

-- the object of an item, on its line: its verdict, or why it is refused
abbrev pub answer_object : ℕ → ItemResult → List ℕ
answer_object number (answer.Judged judged) = object_line (judged_fields number judged)
answer_object number (answer.Refused kind command) = object_line (refused_fields number kind command)

-- the object of an item if it is shown, else nothing
abbrev pub shown_object : Shown → ℕ → ItemResult → List ℕ
shown_object shown.All number a = answer_object number a
shown_object shown.Failures number a = if is_good_answer a then [] else answer_object number a

-- the objects of the items that are shown, in their order, where the first of all items has the number
abbrev pub shown_objects : Shown → ℕ → List ItemResult → List ℕ
shown_objects which number [] = []
shown_objects which number (a ∷ answers) = shown_object which number a ++ shown_objects which (number + 1) answers

-- the objects of the items, each with its number from 1, and the worst of the statuses of all items; or the object of the
-- model's refusal
pub data IsJudgeJson (order : CallOrder) (which : Shown) (input text : List ℕ) (status : Status) : Type 0 where
  answered : (m : Source) (trees : List Form) (answers : List ItemResult) → Holds input m trees
      → AllZip (IsAnswer order m) (items_of trees) answers
      → text ≡ shown_objects which 1 answers → status ≡ worst_status Accepted answers
      → IsJudgeJson order which input text status
  refused : (refusal : Refusal) → IsRefusal input refusal → text ≡ refusal_object refusal → status ≡ Refused
      → IsJudgeJson order which input text status

-- ---- `pst check --format json`

-- the object of a well-typed model, or that of its first refusal
pub data IsModelObject (input text : List ℕ) (status : Status) : Type 0 where
  accepted : (m : Source) (trees : List Form) → Holds input m trees → text ≡ object_line (accepted_fields m.name)
      → status ≡ Accepted
      → IsModelObject input text status
  refused : (refusal : Refusal) → IsRefusal input refusal → text ≡ refusal_object refusal → status ≡ Refused
      → IsModelObject input text status

-- the object of the model, and after it the notices
pub record IsCheckJson (input notices text : List ℕ) (status : Status) : Type 0 where
  pub object : List ℕ
  pub model : IsModelObject input object status
  pub whole : text ≡ object ++ notices
