-- The first part of a run with another number of replies than of commands.
use Rattle.std.specs.Prelude.{◌≡◌, ◌==◌, ◌+◌, ◌⊎◌, ℕ, if◌then◌else◌, List, [], ◌∷◌, ◌++◌, length, map, Option, Some, None}
use Rattle.pst_case.specs.declared.case.Case.{Case}
use Rattle.pst_run_problems.specs.declared.command.Part.{Part}
use Rattle.pst_runs.specs.Replies.{listed_at}
use Rattle.pst_sexpr.specs.declared.form.Form.{Form}

-- the number of that part, where the first of the parts has the list with the number
abbrev pub first_other : List Form → ℕ → List Part → Option ℕ
first_other lists number [] = None
first_other lists number (part ∷ parts) =
    if length (listed_at lists number) == length part.commands.now then first_other lists (number + 1) parts
    else Some number

-- the numbers of commands of parts
abbrev pub counts : List Part → List ℕ
counts parts = map (λ part. length part.commands.now) parts

-- the numbers of commands of a case's parts before its suffix
abbrev pub case_counts : Case → List ℕ
case_counts c = length c.prefix ∷ map length c.branches

-- the parts have the numbers of commands of those of the case; a suffix without commands may be left out
abbrev pub ArePartsOf : Case → List Part → Type 0
ArePartsOf c parts =
    (counts parts ≡ case_counts c ++ length c.suffix ∷ [])
    ⊎ ((counts parts ≡ case_counts c) × (c.suffix ≡ []))
