-- How much a case weighs.
use Rattle.std.specs.Prelude.{ℕ, ◌+◌, ◌*◌, ◌<◌, length, All}
use Rattle.pst_case.specs.Shape.{joined}
use Rattle.pst_case.specs.declared.case.Case.{Case}
use Rattle.pst_shrink.specs.Candidates.{candidates}

-- a command of the prefix or of the suffix weighs 1, and one of a branch 2
abbrev pub weight : Case → ℕ
weight c = length c.prefix + 2 * length (joined c.branches) + length c.suffix

-- the candidates of a case weigh less than it
abbrev pub CandidatesAreLesser : Type 0
CandidatesAreLesser = (c : Case) → All (λ (d : Case). weight d < weight c) (candidates c)
