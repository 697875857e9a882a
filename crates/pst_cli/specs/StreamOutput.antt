-- The output of `pst judge --stream`: a text and a status, for the input with the model and the bytes of the stream.
use Rattle.std.specs.Prelude.{◌≡◌, ◌⊎◌, ℕ, List, ◌++◌, codes}
use Rattle.std.specs.List.{AllZip}
use Rattle.pst_cli.specs.Head.{refusal_line, line_end}
use Rattle.pst_cli.specs.KeepingOn.{IsShownKeepingOn, answer_lines, worst_status}
use Rattle.pst_cli.specs.Sending.{memory_line}
use Rattle.pst_cli.specs.declared.answer.Status.{Status}
use Rattle.pst_cli.specs.declared.lines.Shown.TheVariants as shown
use Rattle.pst_cli.specs.declared.answer.Status.TheVariants.{Accepted, Refused, Lost}
use Rattle.pst_judge.specs.declared.by_order.CallOrder.{CallOrder}
use Rattle.pst_rejudge.specs.declared.reading.ItemResult.{ItemResult}
use Rattle.pst_typing.specs.Loading.{Holds, IsRefusal, items_of}
use Rattle.pst_typing.specs.declared.loading.Refusal.{Refusal}
use Rattle.pst_model.specs.declared.model.Source.{Source}
use Rattle.pst_sexpr.specs.declared.form.Form.{Form}
use Rattle.pst_rejudge.specs.StreamAnswers.{IsLineAnswer, SpellsItem}
use Rattle.pst_rejudge.specs.Lines.{lines_of}

-- the line after the last one where the reader fails
abbrev pub unread_line : List ℕ
unread_line = codes "refused file" ++ line_end

-- why the lines end before the stream does: its source failed, if it may, or an allocation did
abbrev pub IsCutLine : Type 0 → List ℕ → Status → Type 0
IsCutLine may_fail line status =
    (may_fail × (line ≡ unread_line) × (status ≡ Refused)) ⊎ ((line ≡ memory_line) × (status ≡ Lost))

-- a line for each line of the stream, from 1: the verdict on its item, or its refusal; the same of the first lines alone, and
-- why the others were not judged; or the refusal of the model
pub data IsStreamOutput (may_fail : Type 0) (order : CallOrder) (input bytes text : List ℕ) (status : Status) : Type 0 where
  whole : (m : Source) (trees : List Form) (answers : List ItemResult) → Holds input m trees
      → AllZip (IsLineAnswer order m) (lines_of bytes) answers
      → text ≡ answer_lines 1 answers → status ≡ worst_status Accepted answers
      → IsStreamOutput may_fail order input bytes text status
  cut : (m : Source) (trees : List Form) (first rest : List (List ℕ)) (answers : List ItemResult) (line : List ℕ)
      → Holds input m trees → lines_of bytes ≡ first ++ rest → AllZip (IsLineAnswer order m) first answers
      → IsCutLine may_fail line status → text ≡ answer_lines 1 answers ++ line
      → IsStreamOutput may_fail order input bytes text status
  refused : (refusal : Refusal) → IsRefusal input refusal → text ≡ refusal_line refusal → status ≡ Refused
      → IsStreamOutput may_fail order input bytes text status

-- the lines and the status of a stream with one item on each line are those with `--keep-going` of an input with these items
abbrev pub StreamsAreFiles : Type 0
StreamsAreFiles =
    (order : CallOrder) (input bytes : List ℕ) (m : Source) (trees : List Form) (answers : List ItemResult)
    → Holds input m trees → AllZip (SpellsItem m) (lines_of bytes) (items_of trees)
    → AllZip (IsLineAnswer order m) (lines_of bytes) answers
    → IsShownKeepingOn order shown.All input (answer_lines 1 answers) (worst_status Accepted answers)
