-- What a writer took of a report.
use Rattle.std.specs.Prelude.{◌≡◌, ℕ, Bool, true, false, List, Option, Result, MatchResult}
use Rattle.pst_report.specs.declared.writer.ReportFault.{ReportFault}
use Rattle.pst_report.specs.declared.writer.ReportFault.TheVariants.{WriteFailed, NoMemory}
use Rattle.pst_sexpr.specs.Writing.{WritesAll, WritesPart}

-- where the writer failed a beginning of the text was appended, and where memory was refused nothing was
abbrev pub WritesUntil :
    (before after : Option (List ℕ)) (broken : Bool) (text : List ℕ) → ReportFault → Type 0
WritesUntil before after broken text WriteFailed = WritesPart before after text × (broken ≡ true)
WritesUntil before after broken text NoMemory = (after ≡ before) × (broken ≡ false)

-- at Ok the text was appended
pub record WritesReport
    (before after : Option (List ℕ)) (broken : Bool) (result : Result (Unit {0}) ReportFault)
    (text : List ℕ) : Type 0 where
  pub outcome :
      MatchResult result (λ _. WritesAll before after broken text) (WritesUntil before after broken text)
