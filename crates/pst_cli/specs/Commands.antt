-- Which output is meant by the options of a command, and what is returned beside it.
use Rattle.std.specs.Prelude.{ℕ, Bool, true, false, List, All}
use Rattle.pst_cli.specs.CampaignEnd.{IsEarlyOutput}
use Rattle.pst_cli.specs.CampaignOutput.{Gives}
use Rattle.pst_cli.specs.JsonOutput.{IsCheckJson, IsJudgeJson}
use Rattle.pst_cli.specs.KeepingOn.{HoldsAnswers, IsShownKeepingOn}
use Rattle.pst_cli.specs.Kept.{HoldsJudged}
use Rattle.pst_cli.specs.Output.{IsCheckOutput, IsShownOutput}
use Rattle.pst_cli.specs.RunOutput.{IsDriveOutput}
use Rattle.pst_cli.specs.declared.answer.OutputForm.{OutputForm}
use Rattle.pst_cli.specs.declared.answer.OutputForm.TheVariants as form
use Rattle.pst_cli.specs.declared.answer.Status.{Status}
use Rattle.pst_cli.specs.declared.campaign.UndrawnTrials.{UndrawnTrials}
use Rattle.pst_cli.specs.declared.drive.DriveOptions.{DriveOptions}
use Rattle.pst_cli.specs.declared.judge.JudgeOptions.{JudgeOptions}
use Rattle.pst_cli.specs.declared.judge.Judging.{Judging}
use Rattle.pst_cli.specs.declared.judge.Judging.TheVariants as judging
use Rattle.pst_cli.specs.declared.lines.Shown.{Shown}
use Rattle.pst_input.specs.Meaning.{Means}
use Rattle.pst_judge.specs.declared.by_order.CallOrder.{CallOrder}
use Rattle.pst_rejudge.specs.Parts.{joined}
use Rattle.pst_runs.specs.Lawful.{AreLawful}
use Rattle.pst_system.specs.Kept.{Answers, Fails, ResetFails}
use Rattle.pst_trial.specs.declared.plan.Settings.{Settings}

-- an output for an input
abbrev pub OutputOf : Type 1
OutputOf = List ℕ → List ℕ → Status → Type 0

-- an output for the plain text that the input means
abbrev pub IsMeant : OutputOf → OutputOf
IsMeant IsOutput input text status = (plain : List ℕ) × Means input plain × IsOutput plain text status

-- a fact holds of the plain text that the input means
abbrev pub IsMeantOf : {A : Type 0} → (List ℕ → A → Type 0) → List ℕ → A → Type 0
IsMeantOf Holds input of = (plain : List ℕ) × Means input plain × Holds plain of

-- ---- `pst check`

-- the line of the model; or its object, and after it the notices
abbrev pub check_answer : OutputForm → (notices : List ℕ) → OutputOf
check_answer form.Text notices = IsCheckOutput
check_answer form.Json notices = λ input. IsCheckJson input notices

-- ---- `pst judge`

-- lines up to the first refused item; lines of all items; or the objects of all items
abbrev pub judge_answer : CallOrder → OutputForm → (keeps_going : Bool) → Shown → OutputOf
judge_answer order form.Text false which = IsShownOutput order which
judge_answer order form.Text true which = IsShownKeepingOn order which
judge_answer order form.Json keeps_going which = IsJudgeJson order which

-- of these the last two
abbrev pub each_answer : CallOrder → OutputForm → Shown → OutputOf
each_answer order form.Text which = IsShownKeepingOn order which
each_answer order form.Json which = IsJudgeJson order which

abbrev pub IsJudgeAnswer : JudgeOptions → OutputOf
IsJudgeAnswer options = judge_answer options.order options.form options.keeps_going options.shown

-- what was judged by an order is what the input holds; what is kept of the runs may be judged
abbrev pub HoldsJudging : CallOrder → List ℕ → Judging → Type 0
HoldsJudging order input (judging.UpToRefusal file) =
    HoldsJudged order false input file.compiled (joined file.runs.items) file.judged.items
    × All (λ runs. AreLawful file.compiled runs.items) file.runs.items
HoldsJudging order input (judging.Each answered) =
    HoldsAnswers order input answered.file.compiled answered.file.trees.items answered.answers.items

-- what was judged by some order is what the input holds
abbrev pub IsJudgedInput : List ℕ → Judging → Type 0
IsJudgedInput input of = (order : CallOrder) × HoldsJudging order input of

-- ---- `pst run`

-- what became of each item, as text or as JSON, each case driven once or as often as is said
abbrev pub IsDriveAnswer : DriveOptions → Answers → Fails → ResetFails → OutputOf
IsDriveAnswer options = IsDriveOutput options.form options.order options.repeats

-- ---- `pst campaign`

-- the report, or the object of the report
abbrev pub IsCampaignAnswer : {S : Type 0} → OutputForm → UndrawnTrials → (may_end : Type 0) → Gives S → Settings → (systems : List S)
    → OutputOf
IsCampaignAnswer form undrawn may_end may_give settings systems = IsEarlyOutput form undrawn may_end may_give settings systems
