-- What is written of cases, block by block.
use Rattle.std.specs.Prelude.{◌≡◌, ℕ, ◌≤◌, Bool, List, Option, Result, MatchResult}
use Rattle.pst_cli.specs.GenerateOutput.{IsCaseLine, AreCaseLines}
use Rattle.pst_cli.specs.Streaming.{IsWrittenTo}
use Rattle.pst_cli.specs.declared.model_commands.ItemForm.{ItemForm}
use Rattle.pst_cli.specs.declared.answer.Output.{Output}
use Rattle.pst_cli.specs.declared.answer.Status.{Status}
use Rattle.pst_cli.specs.declared.answer.Status.TheVariants.{Accepted}
use Rattle.pst_cli.specs.declared.stream.Cut.{Cut}
use Rattle.pst_sexpr.specs.Writing.{WritesAll}
use Rattle.pst_sexpr.specs.declared.form.Form.{Form}
use Rattle.pst_trial.specs.PlanView.{PlanView}
use Rattle.pst_trial.specs.declared.plan.Settings.{Settings}
use Rattle.pst_typing.specs.Loading.{Holds}

-- the plan is that of the model that the input holds, with these settings
pub record IsPlanOf (input : List ℕ) (settings : Settings) (p : PlanView) : Type 0 where
  pub trees : List Form
  pub holds : Holds input p.model trees
  pub settings_are : p.settings ≡ settings

-- the output is the line of a number
abbrev pub IsLineOf : ItemForm → PlanView → ℕ → Output → Type 0
IsLineOf f p number output = IsCaseLine f p number output.text.items output.status

module _ (f : ItemForm) (p : PlanView) (first count : ℕ) (so_far : Status) (before after : Option (List ℕ)) (broken : Bool) where
  -- all lines were written
  pub record AreWritten (status : Status) : Type 0 where
    pub text : List ℕ
    pub lines : AreCaseLines f p first count so_far text status
    pub written : WritesAll before after broken text

  -- the lines of the first numbers were written, or a beginning of them
  pub record AreCutShort (cut : Cut) : Type 0 where
    pub some : ℕ
    pub within : some ≤ count
    pub text : List ℕ
    pub worst : Status
    pub lines : AreCaseLines f p first some so_far text worst
    pub written : IsWrittenTo before after broken text cut

  -- one of these
  abbrev pub EndsLines : Result Status Cut → Type 0
  EndsLines result = MatchResult result AreWritten AreCutShort

-- the same from no line on
abbrev pub EndsCases : ItemForm → PlanView → (first count : ℕ) → (before after : Option (List ℕ)) → Bool → Result Status Cut → Type 0
EndsCases f p first count before after broken result = EndsLines f p first count Accepted before after broken result
