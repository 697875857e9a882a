-- What an attempt answers.
use Rattle.std.specs.Prelude.{ℕ, ◌↔◌, List, Option, Some, None}
use Rattle.pst_case.specs.declared.case.Case.{Case}
use Rattle.pst_shrink.specs.declared.shrinking.AttemptOutcome.{AttemptOutcome}
use Rattle.pst_shrink.specs.declared.shrinking.AttemptOutcome.TheVariants.{NotValid, Held, Broke}

-- how many valid cases were driven for the answer
abbrev pub drives : {H : Type 0} → AttemptOutcome H → ℕ
drives NotValid = 0
drives (Held hs) = 1
drives (Broke hs h) = 1

-- the answer to a candidate that was passed over: it is not valid, or it was driven and these histories hold
abbrev pub passed_outcome : {H : Type 0} → Option (List H) → AttemptOutcome H
passed_outcome None = NotValid
passed_outcome (Some hs) = Held hs

-- which outcomes may be answered of which case
abbrev pub Answers : Type 0 → Type 1
Answers H = Case → AttemptOutcome H → Type 0

-- the same outcomes may be answered as before, and the same faults
pub record IsKept {H F : Type 0} (R S : Answers H) (P Q : F → Type 0) : Type 0 where
  pub answers : (c : Case) (o : AttemptOutcome H) → S c o ↔ R c o
  pub fails : (f : F) → Q f ↔ P f
