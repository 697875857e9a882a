-- An item of a number, and what is written where there is none.
use Rattle.std.specs.Prelude.{◌≡◌, ◌≤◌, ℕ, List, ◌++◌, length, codes, decimal}
use Rattle.pst_cli.specs.Head.{line_end}
use Rattle.pst_cli.specs.Output.{status_of}
use Rattle.pst_cli.specs.declared.answer.Status.{Status}
use Rattle.pst_cli.specs.declared.answer.Status.TheVariants.{Refused}
use Rattle.pst_judge.specs.declared.judgement.Judged.{Judged}

-- there is an item of the number
abbrev pub IsItem : ℕ → List Judged → Type 0
IsItem number js = (1 ≤ number) × (number ≤ length js)

-- `refused item N of COUNT`
abbrev pub no_item_line : ℕ → ℕ → List ℕ
no_item_line number count =
    codes "refused item " ++ (decimal number ++ (codes " of " ++ (decimal count ++ line_end)))

-- a text, of which nothing is said, with the status of the judgements; or the refusal of an item that there
-- is none of
pub data IsOfItem (number : ℕ) (js : List Judged) (text : List ℕ) (status : Status) : Type 0 where
  shown : IsItem number js → status ≡ status_of js → IsOfItem number js text status
  no_item : (IsItem number js → ⊥) → text ≡ no_item_line number (length js) → status ≡ Refused
      → IsOfItem number js text status
