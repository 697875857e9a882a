-- The output of `pst convert`: a text and a status, for an input.
use Rattle.std.specs.Prelude.{◌≡◌, ℕ, List, [], ◌∷◌, ◌++◌}
use Rattle.pst_case.specs.declared.history.Run.{Run}
use Rattle.pst_cli.specs.Output.{HoldsRuns, IsFirstRefusal}
use Rattle.pst_cli.specs.declared.model_commands.ItemForm.{ItemForm}
use Rattle.pst_cli.specs.declared.model_commands.ItemForm.TheVariants as form
use Rattle.pst_cli.specs.declared.answer.Status.{Status}
use Rattle.pst_cli.specs.declared.answer.Status.TheVariants.{Accepted}
use Rattle.pst_json_runs.specs.Written.{json_line}
use Rattle.pst_model.specs.declared.model.Source.{Source}
use Rattle.pst_runs.specs.Lines.{line_of}
use Rattle.pst_runs.specs.Written.{run_form}

-- an item on a line
abbrev pub line_in : ItemForm → Source → Run → List ℕ
line_in form.Trees m run = line_of (run_form m run)
line_in form.Json m run = json_line m run

-- items, one on each line
abbrev pub lines_in : ItemForm → Source → List Run → List ℕ
lines_in f m [] = []
lines_in f m (run ∷ runs) = line_in f m run ++ lines_in f m runs

-- the items in the form; or the first refusal
pub data IsConvertOutput (f : ItemForm) (input text : List ℕ) (status : Status) : Type 0 where
  converted : (m : Source) (runs : List Run) → HoldsRuns input m runs → text ≡ lines_in f m runs
      → status ≡ Accepted → IsConvertOutput f input text status
  refused : IsFirstRefusal input text status → IsConvertOutput f input text status
