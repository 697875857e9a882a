-- How failures of a sink are printed.
use Rattle.std.specs.Prelude.{ℕ, List, codes}

-- the text of a `Failed`
abbrev pub failed_text : List ℕ
failed_text = codes "Failed"

-- the text of a `WriteFailed`
abbrev pub write_failed_text : List ℕ
write_failed_text = codes "WriteFailed"
