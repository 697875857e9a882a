-- What an input begins with: a well-typed model, or its first refusal.
use Rattle.std.specs.Prelude.{◌≡◌, ◌≤◌, ℕ, List, [], ◌∷◌, ◌++◌, length, Ok, Err, codes, decimal}
use Rattle.pst_model.specs.WellTyped.{WellModel}
use Rattle.pst_model.specs.declared.model.Source.{Source}
use Rattle.pst_sexpr.specs.Fault as sexpr
use Rattle.pst_sexpr.specs.Reading.{max_bytes, Spells, IsFault}
use Rattle.pst_sexpr.specs.declared.form.Form.{Form}
use Rattle.pst_syntax.specs.FaultName as syntax
use Rattle.pst_syntax.specs.Items.{model_of}
use Rattle.pst_typing.specs.Least.{IsIll}
use Rattle.pst_typing.specs.declared.loading.Refusal.{Refusal}
use Rattle.pst_typing.specs.declared.loading.Refusal.TheVariants.{Unread, NoModel, IllTyped}

-- the input is a file of the trees
pub record IsFile (input : List ℕ) (trees : List Form) : Type 0 where
  pub small : length input ≤ max_bytes
  pub spelled : Spells input trees

-- the input is a file of the trees, and the first of them spells the model, which is well typed
pub record Holds (input : List ℕ) (m : Source) (trees : List Form) : Type 0 where
  pub file : IsFile input trees
  pub model : model_of trees ≡ Ok m
  pub typed : WellModel m

-- the trees behind the model
abbrev pub items_of : List Form → List Form
items_of [] = []
items_of (model ∷ items) = items

-- the first refusal of an input: that of its bytes, then that of the model, then that of the model's types
abbrev pub IsRefusal : List ℕ → Refusal → Type 0
IsRefusal input (Unread fault) = IsFault input fault
IsRefusal input (NoModel fault) = (trees : List Form) × IsFile input trees × (model_of trees ≡ Err fault)
IsRefusal input (IllTyped number) =
    (trees : List Form) × (m : Source) × IsFile input trees × (model_of trees ≡ Ok m) × IsIll m number

-- how a refusal is printed: `read KIND at PLACE`, `model KIND item I` or `type item I`
abbrev pub text_of : Refusal → List ℕ
text_of (Unread fault) = codes "read " ++ sexpr.text_of fault
text_of (NoModel fault) = codes "model " ++ syntax.text_of fault
text_of (IllTyped number) = codes "type item " ++ decimal number
