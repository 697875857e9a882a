-- What a writer took of trees that it was given, each with a line end after it.
use Rattle.std.specs.Prelude.{◌≡◌, ℕ, Bool, true, false, List, [], ◌∷◌, ◌++◌, Option, Result, MatchResult}
use Rattle.pst_sexpr.specs.Spelling.{spelling}
use Rattle.pst_sexpr.specs.Writing.{WritesAll, WritesPart}
use Rattle.pst_sexpr.specs.declared.form.Form.{Form}
use Rattle.pst_runs.specs.declared.write.writer.WriteFault.{WriteFault}
use Rattle.pst_runs.specs.declared.write.writer.WriteFault.TheVariants.{WriteFailed, NoMemory}

-- a tree in its spelling, and a line end
abbrev pub line_of : Form → List ℕ
line_of form = spelling form ++ 10 ∷ []

-- each tree in its spelling, with a line end after it
abbrev pub lines_of : List Form → List ℕ
lines_of [] = []
lines_of (form ∷ forms) = line_of form ++ lines_of forms

-- where the writer failed a beginning of the lines was appended, and where memory was refused nothing was
abbrev pub WritesUntil :
    (before after : Option (List ℕ)) (broken : Bool) (forms : List Form) → WriteFault → Type 0
WritesUntil before after broken forms WriteFailed = WritesPart before after (lines_of forms) × (broken ≡ true)
WritesUntil before after broken forms NoMemory = (after ≡ before) × (broken ≡ false)

-- at Ok the lines of all trees were appended
pub record WritesLines
    (before after : Option (List ℕ)) (broken : Bool) (result : Result (Unit {0}) WriteFault)
    (forms : List Form) : Type 0 where
  pub outcome :
      MatchResult result (λ _. WritesAll before after broken (lines_of forms))
      (WritesUntil before after broken forms)
