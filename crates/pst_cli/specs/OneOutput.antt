-- An input has one output.
use Rattle.std.specs.Prelude.{◌≡◌, ℕ, List}
use Rattle.pst_cli.specs.Output.{IsCheckOutput, IsJudgeOutput}
use Rattle.pst_cli.specs.declared.answer.Status.{Status}

-- the definition of `pst check` has one text and one status for an input, at most
abbrev pub OneCheckOutput : Type 0
OneCheckOutput =
    (input text other : List ℕ) (status ending : Status) → IsCheckOutput input text status
    → IsCheckOutput input other ending
    → (text ≡ other) × (status ≡ ending)

-- so has that of `pst judge`
abbrev pub OneJudgeOutput : Type 0
OneJudgeOutput =
    (input text other : List ℕ) (status ending : Status) → IsJudgeOutput input text status
    → IsJudgeOutput input other ending
    → (text ≡ other) × (status ≡ ending)
