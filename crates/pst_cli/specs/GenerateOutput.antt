-- The output of `pst generate`: a text and a status, for the form, the input with the model, the settings of the trials, and their
-- numbers.
use Rattle.std.specs.Prelude.{◌≡◌, ℕ, ◌+◌, ◌≤◌, List, [], ◌∷◌, ◌++◌, Ok, Err, None, codes, decimal}
use Rattle.pst_case.specs.declared.case.Case.{Case}
use Rattle.pst_case.specs.declared.history.Run.{Run}
use Rattle.pst_cli.specs.Answering.{memory_of, refusal_of}
use Rattle.pst_cli.specs.CampaignOutput.{plan_of}
use Rattle.pst_cli.specs.ConvertOutput.{line_in}
use Rattle.pst_cli.specs.Head.{line_end}
use Rattle.pst_cli.specs.Status.{or_worse}
use Rattle.pst_cli.specs.declared.answer.OutputForm.{OutputForm}
use Rattle.pst_cli.specs.declared.answer.OutputForm.TheVariants as output
use Rattle.pst_cli.specs.declared.model_commands.ItemForm.{ItemForm}
use Rattle.pst_cli.specs.declared.model_commands.ItemForm.TheVariants as form
use Rattle.pst_cli.specs.declared.answer.Status.{Status}
use Rattle.pst_cli.specs.declared.answer.Status.TheVariants.{Accepted, Failed, Refused, Lost}
use Rattle.pst_eval.specs.Places.{callback_name}
use Rattle.pst_eval.specs.declared.callbacks.FaultPlace.{FaultPlace}
use Rattle.pst_rejudge.specs.Objects.{object_line}
use Rattle.pst_rejudge.specs.Verdicts.{place_fields}
use Rattle.pst_rejudge.specs.declared.field.Field.{Field}
use Rattle.pst_rejudge.specs.declared.field.Field.TheVariants.{Number}
use Rattle.pst_rejudge.specs.declared.field.FieldName.TheVariants as name
use Rattle.pst_model.specs.declared.model.Source.{Source}
use Rattle.pst_sexpr.specs.declared.form.Form.{Form}
use Rattle.pst_trial.specs.PlanView.{PlanView}
use Rattle.pst_trial.specs.Sound.{IsTrialCase}
use Rattle.pst_trial.specs.declared.plan.Settings.{Settings}
use Rattle.pst_typing.specs.Loading.{Holds, IsRefusal}
use Rattle.pst_typing.specs.declared.loading.Refusal.{Refusal}
use Rattle.pst_value.specs.FaultName.{fault_name}

-- a case of the model, without replies
abbrev pub case_alone : Source → Case → Run
case_alone m c = record { shaped = record { model = m; case = c }; history = None }

-- `genfault NUMBER COMMAND CALLBACK KIND`
abbrev pub genfault_line : ℕ → FaultPlace → List ℕ
genfault_line number place =
    codes "genfault " ++ (decimal number ++ (codes " " ++ (decimal place.command ++ (codes " "
    ++ (callback_name place.callback ++ (codes " " ++ (fault_name place.fault ++ line_end)))))))

-- the members of its object
abbrev pub genfault_fields : ℕ → FaultPlace → List Field
genfault_fields number place = Number name.GenFault number ∷ place_fields place

-- the fault of the trial of a number, on its line
abbrev pub fault_line : ItemForm → ℕ → FaultPlace → List ℕ
fault_line form.Trees number place = genfault_line number place
fault_line form.Json number place = object_line (genfault_fields number place)

-- the form of refusals beside items in a form
abbrev pub form_beside : ItemForm → OutputForm
form_beside form.Trees = output.Text
form_beside form.Json = output.Json

-- what is written if an allocation fails
abbrev pub memory_in : ItemForm → List ℕ
memory_in f = memory_of (form_beside f)

-- the case of the trial of a number in the form, on one line; or the fault for which it has none
pub data IsCaseLine (f : ItemForm) (p : PlanView) (number : ℕ) (text : List ℕ) (status : Status) : Type 0 where
  generated : (c : Case) → IsTrialCase p number (Ok c) → text ≡ line_in f p.model (case_alone p.model c)
      → status ≡ Accepted → IsCaseLine f p number text status
  faulted : (place : FaultPlace) → IsTrialCase p number (Err place) → text ≡ fault_line f number place
      → status ≡ Failed → IsCaseLine f p number text status

-- the lines of numbers that follow one another, the first of which is `number`, and the worst of a status and theirs
pub data AreCaseLines (f : ItemForm) (p : PlanView) : (number count : ℕ) (so_far : Status) (text : List ℕ) (status : Status)
    → Type 0 where
  none : (number : ℕ) (so_far : Status) → AreCaseLines f p number 0 so_far [] so_far
  next : (number count : ℕ) (so_far ending status : Status) (line text : List ℕ)
      → IsCaseLine f p number line ending
      → AreCaseLines f p (number + 1) count (or_worse so_far ending) text status
      → AreCaseLines f p number (count + 1) so_far (line ++ text) status

-- the lines of all numbers; those of the first ones, and that an allocation failed; or the refusal of the model
pub data IsGenerateOutput (f : ItemForm) (settings : Settings) (first count : ℕ) (input text : List ℕ) (status : Status)
    : Type 0 where
  whole : (m : Source) (trees : List Form) → Holds input m trees
      → AreCaseLines f (plan_of m settings) first count Accepted text status
      → IsGenerateOutput f settings first count input text status
  cut : (m : Source) (trees : List Form) (some : ℕ) (lines : List ℕ) (worst : Status) → Holds input m trees → some ≤ count
      → AreCaseLines f (plan_of m settings) first some Accepted lines worst
      → text ≡ lines ++ memory_in f → status ≡ Lost
      → IsGenerateOutput f settings first count input text status
  refused : (refusal : Refusal) → IsRefusal input refusal → text ≡ refusal_of (form_beside f) refusal → status ≡ Refused
      → IsGenerateOutput f settings first count input text status
