-- What is written of an output, and which status is answered.
use Rattle.std.specs.Prelude.{◌≡◌, ◌⊎◌, ◌++◌, ℕ, Bool, true, List, Option, codes}
use Rattle.pst_cli.specs.Head.{line_end}
use Rattle.pst_cli.specs.declared.answer.Status.{Status}
use Rattle.pst_cli.specs.declared.answer.Status.TheVariants.{Lost}
use Rattle.pst_sexpr.specs.Writing.{WritesAll, WritesPart}

-- the text was written whole, and its status is the answer; or the writer failed, a beginning of the text
-- went out, and Lost is the answer
abbrev pub Sends :
    (before after : Option (List ℕ)) (broken : Bool) (answer : Status) (text : List ℕ) (status : Status)
    → Type 0
Sends before after broken answer text status =
    (WritesAll before after broken text × (answer ≡ status))
    ⊎ (WritesPart before after text × (broken ≡ true) × (answer ≡ Lost))

-- the line that is written where memory was refused
abbrev pub memory_line : List ℕ
memory_line = codes "refused memory" ++ line_end

-- one output was sent, or the line for refused memory
pub record Prints (IsOutput : List ℕ → Status → Type 0) (before after : Option (List ℕ)) (broken : Bool)
    (answer : Status) : Type 0 where
  pub text : List ℕ
  pub status : Status
  pub lawful : IsOutput text status ⊎ ((text ≡ memory_line) × (status ≡ Lost))
  pub sent : Sends before after broken answer text status

-- one output was sent
pub record SendsOne (IsOutput : List ℕ → Status → Type 0) (before after : Option (List ℕ)) (broken : Bool)
    (answer : Status) : Type 0 where
  pub text : List ℕ
  pub status : Status
  pub lawful : IsOutput text status
  pub sent : Sends before after broken answer text status
