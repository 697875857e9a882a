-- The output of `pst run`: a text and a status, for an input and the system on which its cases are driven.
use Rattle.std.specs.Prelude.{◌≡◌, ℕ, ◌+◌, List, [], ◌∷◌, ◌++◌, Option, Some, None, Err, codes, decimal}
use Rattle.std.specs.List.{AllZip}
use Rattle.pst_case.specs.declared.history.Run.{Run}
use Rattle.pst_cli.specs.Answering.{fault_of, refusal_of}
use Rattle.pst_cli.specs.DrivenItems.{IsDrivenItem, report_status}
use Rattle.pst_cli.specs.Head.{line_end}
use Rattle.pst_cli.specs.Output.{HoldsRuns, item_line}
use Rattle.pst_cli.specs.Status.{or_worse}
use Rattle.pst_cli.specs.declared.answer.OutputForm.{OutputForm}
use Rattle.pst_cli.specs.declared.answer.OutputForm.TheVariants as form
use Rattle.pst_cli.specs.declared.answer.Status.{Status}
use Rattle.pst_cli.specs.declared.answer.Status.TheVariants.{Accepted, Refused}
use Rattle.pst_cli.specs.declared.driven_item.DrivenItem.{DrivenItem}
use Rattle.pst_cli.specs.declared.driven_item.Drives.{Drives}
use Rattle.pst_cli.specs.declared.driven_item.ItemReport.{ItemReport}
use Rattle.pst_cli.specs.declared.driven_item.ItemReport.TheVariants as became
use Rattle.pst_driver.specs.FaultName.{fault_name}
use Rattle.pst_driver.specs.declared.driving.DriveFault.{DriveFault}
use Rattle.pst_judge.specs.declared.by_order.CallOrder.{CallOrder}
use Rattle.pst_judge.specs.declared.by_order.CallOrder.TheVariants.{Any}
use Rattle.pst_model.specs.declared.model.Source.{Source}
use Rattle.pst_rejudge.specs.Objects.{object_line}
use Rattle.pst_rejudge.specs.Verdicts.{judged_fields, verdict}
use Rattle.pst_rejudge.specs.declared.field.Field.{Field}
use Rattle.pst_rejudge.specs.declared.field.Field.TheVariants.{Number, Words}
use Rattle.pst_rejudge.specs.declared.field.FieldName.TheVariants as name
use Rattle.pst_runs.specs.Items.{runs_of}
use Rattle.pst_runs.specs.Lines.{line_of}
use Rattle.pst_runs.specs.Written.{run_form}
use Rattle.pst_runs.specs.declared.reader.RunFault.{RunFault}
use Rattle.pst_sexpr.specs.Spelling.{spelling}
use Rattle.pst_sexpr.specs.declared.form.Form.{Form}
use Rattle.pst_system.specs.Kept.{Answers, Fails, ResetFails}
use Rattle.pst_typing.specs.Loading.{Holds, items_of, IsRefusal}
use Rattle.pst_typing.specs.declared.loading.Refusal.{Refusal}

-- ---- an item as text

-- the run as a tree on one line, if there is one
abbrev pub run_text : Source → Option Run → List ℕ
run_text m None = []
run_text m (Some run) = line_of (run_form m run)

-- `NUMBER lost KIND`
abbrev pub lost_line : ℕ → DriveFault → List ℕ
lost_line number fault = decimal number ++ codes " lost " ++ fault_name fault ++ line_end

-- the run, and `NUMBER VERDICT`; or the line of a loss
abbrev pub report_text : Source → ℕ → ItemReport → List ℕ
report_text m number (became.Judged run judged) = run_text m run ++ item_line number judged
report_text m number (became.Lost fault) = lost_line number fault

-- `NUMBER drives N failed K`
abbrev pub drives_line : (number drives failed : ℕ) → List ℕ
drives_line number drives failed =
    decimal number ++ codes " drives " ++ decimal drives ++ codes " failed " ++ decimal failed ++ line_end

-- that line, if drives are counted
abbrev pub drives_text : ℕ → Option Drives → List ℕ
drives_text number None = []
drives_text number (Some drives) = drives_line number drives.all drives.failed

-- ---- an item as JSON

-- the run as a tree, if there is one
abbrev pub run_fields : Source → Option Run → List Field
run_fields m None = []
run_fields m (Some run) = Words name.Run (spelling (run_form m run)) ∷ []

-- the members that `pst judge` writes, and the run; or the loss
abbrev pub report_fields : Source → ℕ → ItemReport → List Field
report_fields m number (became.Judged run judged) = judged_fields number judged ++ run_fields m run
report_fields m number (became.Lost fault) =
    Number name.Item number ∷ verdict (codes "lost") ∷ Words name.Fault (fault_name fault) ∷ []

-- how many drives were made and how many failed, if drives are counted
abbrev pub drives_fields : Option Drives → List Field
drives_fields None = []
drives_fields (Some drives) = Number name.Drives drives.all ∷ Number name.Failed drives.failed ∷ []

-- ---- items in a form

-- the text of an item, or its object on a line
abbrev pub item_in : OutputForm → Source → ℕ → DrivenItem → List ℕ
item_in form.Text m number item = report_text m number item.report ++ drives_text number item.drives
item_in form.Json m number item = object_line (report_fields m number item.report ++ drives_fields item.drives)

-- those of items, the first of which has the number
abbrev pub items_in : OutputForm → Source → ℕ → List DrivenItem → List ℕ
items_in f m number [] = []
items_in f m number (item ∷ items) = item_in f m number item ++ items_in f m (number + 1) items

-- the worst of a status and those of items
abbrev pub worst_of_items : Status → List DrivenItem → Status
worst_of_items so_far [] = so_far
worst_of_items so_far (item ∷ items) = worst_of_items (or_worse so_far (report_status item.report)) items

-- ---- the whole output

-- the first refusal of an input in a form: that of the model, or else that of the first refused item
pub data IsRefusedIn (f : OutputForm) (input text : List ℕ) (status : Status) : Type 0 where
  model_refused : (refusal : Refusal) → IsRefusal input refusal → text ≡ refusal_of f refusal → status ≡ Refused
      → IsRefusedIn f input text status
  item_refused : (m : Source) (trees : List Form) (fault : RunFault) → Holds input m trees
      → runs_of m (items_of trees) ≡ Err fault
      → text ≡ fault_of f fault → status ≡ Refused → IsRefusedIn f input text status

-- what became of each item, in the form and numbered from 1, and the worst of their statuses; or the first refusal
pub data IsDriveOutput (f : OutputForm) (order : CallOrder) (repeats : Option ℕ) (answers : Answers) (fails : Fails)
    (reset_fails : ResetFails) (input text : List ℕ) (status : Status) : Type 0 where
  driven : (m : Source) (runs : List Run) (items : List DrivenItem) → HoldsRuns input m runs
      → AllZip (IsDrivenItem order m answers fails reset_fails repeats) runs items
      → text ≡ items_in f m 1 items → status ≡ worst_of_items Accepted items
      → IsDriveOutput f order repeats answers fails reset_fails input text status
  refused : IsRefusedIn f input text status → IsDriveOutput f order repeats answers fails reset_fails input text status

-- what `pst run` writes where all interleavings may explain a run
abbrev pub IsRunOutput : Answers → Fails → ResetFails → List ℕ → List ℕ → Status → Type 0
IsRunOutput answers fails reset_fails input text status =
    IsDriveOutput form.Text Any None answers fails reset_fails input text status

-- what `pst run --format json` writes
abbrev pub IsRunJson : CallOrder → Option ℕ → Answers → Fails → ResetFails → List ℕ → List ℕ → Status → Type 0
IsRunJson order repeats answers fails reset_fails input text status =
    IsDriveOutput form.Json order repeats answers fails reset_fails input text status
