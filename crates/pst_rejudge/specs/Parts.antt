-- An input that is read in parts.
use Rattle.std.specs.Prelude.{◌≡◌, ℕ, Bool, true, false, List, [], ◌∷◌, ◌++◌, Option, Some, None, Vec}
use Rattle.std.specs.List.{AllZip, flat_map}
use Rattle.std.specs.declared.alloc.Global.{Global}
use Rattle.pst_case.specs.declared.history.Run.{Run}
use Rattle.pst_judge.specs.declared.by_order.CallOrder.{CallOrder}
use Rattle.pst_model.specs.declared.model.Source.{Source}
use Rattle.pst_rejudge.specs.Answers.{IsAnswer, spelled_run}
use Rattle.pst_rejudge.specs.declared.reading.ItemResult.{ItemResult}
use Rattle.pst_sexpr.specs.Reading.{Spells}
use Rattle.pst_sexpr.specs.declared.form.Form.{Form}

-- the last byte is a line end
abbrev pub EndsLine : List ℕ → Type 0
EndsLine bytes = (before : List ℕ) × (bytes ≡ before ++ 10 ∷ [])

-- One behind the other the parts are the bytes, and each but the last ends with a line end.
pub data AreParts : List ℕ → List (List ℕ) → Type 0 where
  last : {bytes : List ℕ} → AreParts bytes (bytes ∷ [])
  before : {part bytes : List ℕ} {parts : List (List ℕ)} →
      EndsLine part → AreParts bytes parts → AreParts (part ++ bytes) (part ∷ parts)

-- the runs of all parts, one behind the other
abbrev pub joined : List (Vec Run Global) → List Run
joined = flat_map (λ runs. runs.items)

-- the run of an item as a list, if runs are kept and the item is not refused
abbrev pub kept_run : (keeps : Bool) → Option Run → List Run
kept_run true (Some run) = run ∷ []
kept_run true None = []
kept_run false run = []

-- the runs that are kept of the items that trees spell, in their order: all, or none
abbrev pub kept_runs : (keeps : Bool) → Source → List Form → List Run
kept_runs keeps m = flat_map (λ form. kept_run keeps (spelled_run m form))

-- these are the answers to the items that trees spell, in the same order, and these runs are kept of them
pub record AreAnswered
    (order : CallOrder) (m : Source) (keeps : Bool) (trees : List Form) (kept : List Run) (answers : List ItemResult)
    : Type 0 where
  pub answered : AllZip (IsAnswer order m) trees answers
  pub are_kept : kept ≡ kept_runs keeps m trees

-- the bytes are a text of trees, these are the answers to the items that they spell, and these runs are kept of them
pub record AreAnsweredPart
    (order : CallOrder) (m : Source) (keeps : Bool) (bytes : List ℕ) (kept : List Run) (answers : List ItemResult)
    : Type 0 where
  pub trees : List Form
  pub spelled : Spells bytes trees
  pub answered : AreAnswered order m keeps trees kept answers
