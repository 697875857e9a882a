-- The runs that are kept beside the answers to them.
use Rattle.std.specs.Prelude.{◌≡◌, ℕ, Bool, true, false, List}
use Rattle.pst_case.specs.declared.history.Run.{Run}
use Rattle.pst_cli.specs.Output.{AreJudged, HoldsRuns}
use Rattle.pst_cli.specs.declared.input.Keep.{Keep}
use Rattle.pst_cli.specs.declared.input.Keep.TheVariants as keep
use Rattle.pst_judge.specs.declared.by_order.CallOrder.{CallOrder}
use Rattle.pst_judge.specs.declared.judgement.Judged.{Judged}
use Rattle.pst_model.specs.declared.model.Source.{Source}
use Rattle.pst_rejudge.specs.Parts.{AreAnswered}
use Rattle.pst_rejudge.specs.declared.reading.ItemResult.{ItemResult}
use Rattle.pst_runs.specs.Lawful.{AreLawful}
use Rattle.pst_sexpr.specs.declared.form.Form.{Form}
use Rattle.pst_typing.specs.Loading.{Holds, items_of}

-- all runs are to be kept
abbrev pub keeps_all : Keep → Bool
keeps_all keep.All = true
keeps_all keep.ForWarnings = false
keeps_all keep.Nothing = false

-- the input holds a model and these trees, these are the answers to the items among them, and these runs are kept of them,
-- all of them where all are to be kept
pub record HoldsAnswered
    (order : CallOrder) (all : Bool) (input : List ℕ) (m : Source) (kept : List Run) (answers : List ItemResult)
    : Type 0 where
  pub trees : List Form
  pub holds : Holds input m trees
  pub keeps : Bool
  pub answered : AreAnswered order m keeps (items_of trees) kept answers
  pub keeps_all : all ≡ true → keeps ≡ true

-- the input holds runs that are judged so; what is kept of them may be judged, and it is all where all are to be kept
pub record HoldsJudged
    (order : CallOrder) (all : Bool) (input : List ℕ) (m : Source) (kept : List Run) (judgements : List Judged)
    : Type 0 where
  pub runs : List Run
  pub holds : HoldsRuns input m runs
  pub judged : AreJudged order m runs judgements
  pub lawful : AreLawful m kept
  pub are_kept : all ≡ true → kept ≡ runs
