-- What is answered of lines.
use Rattle.std.specs.Prelude.{◌≡◌, ◌≤◌, ℕ, true, false, List, [], ◌∷◌, length}
use Rattle.std.specs.List.{AllZip}
use Rattle.pst_json_runs.specs.Lines.{has_json, line_form}
use Rattle.pst_rejudge.specs.Answers.{IsAnswer}
use Rattle.pst_rejudge.specs.declared.reading.ItemResult.{ItemResult}
use Rattle.pst_rejudge.specs.declared.reading.ItemResult.TheVariants.{Refused}
use Rattle.pst_judge.specs.declared.by_order.CallOrder.{CallOrder}
use Rattle.pst_model.specs.declared.model.Source.{Source}
use Rattle.pst_runs.specs.declared.reader.RunFaultKind.TheVariants.{BadForm}
use Rattle.pst_sexpr.specs.Reading.{max_bytes, Spells}
use Rattle.pst_sexpr.specs.declared.form.Form.{Form}

-- the line is a file of this tree alone
pub record IsTreeFile (line : List ℕ) (form : Form) : Type 0 where
  pub size : length line ≤ max_bytes
  pub spelled : Spells line (form ∷ [])

-- the line is a file of this tree alone; or it is within the size and begins with `{`, and this is the tree of its JSON
pub data SpellsItem (m : Source) (line : List ℕ) (form : Form) : Type 0 where
  tree : has_json line ≡ false → IsTreeFile line form → SpellsItem m line form
  json : has_json line ≡ true → length line ≤ max_bytes → form ≡ line_form m line → SpellsItem m line form

-- what is answered of the item that the line spells; or, where it spells none, `BadForm` of command 0
pub data IsLineAnswer (order : CallOrder) (m : Source) (line : List ℕ) (answer : ItemResult) : Type 0 where
  item : (form : Form) → SpellsItem m line form → IsAnswer order m form answer → IsLineAnswer order m line answer
  no_item : ((form : Form) → SpellsItem m line form → ⊥) → answer ≡ Refused BadForm 0 → IsLineAnswer order m line answer

-- the same of a line without JSON
pub data IsTreeAnswer (order : CallOrder) (m : Source) (line : List ℕ) (answer : ItemResult) : Type 0 where
  tree_item : (form : Form) → IsTreeFile line form → IsAnswer order m form answer → IsTreeAnswer order m line answer
  no_tree : ((form : Form) → IsTreeFile line form → ⊥) → answer ≡ Refused BadForm 0 → IsTreeAnswer order m line answer

-- the answers to lines that spell one item each are the answers to these items
abbrev pub LinesAreItems : Type 0
LinesAreItems =
    (order : CallOrder) (m : Source) (lines : List (List ℕ)) (forms : List Form) (answers : List ItemResult)
    → AllZip (SpellsItem m) lines forms → AllZip (IsLineAnswer order m) lines answers
    → AllZip (IsAnswer order m) forms answers
