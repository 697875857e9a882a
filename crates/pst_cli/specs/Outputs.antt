-- Outputs that are put together.
use Rattle.std.specs.Prelude.{ℕ, List, [], ◌∷◌, ◌++◌}
use Rattle.pst_cli.specs.Status.{or_worse}
use Rattle.pst_cli.specs.declared.answer.Output.{Output}
use Rattle.pst_cli.specs.declared.answer.Status.{Status}

-- the texts, one after another
abbrev pub joined : List Output → List ℕ
joined [] = []
joined (o ∷ os) = o.text.items ++ joined os

-- the worst of a status and those of outputs
abbrev pub worst_of : Status → List Output → Status
worst_of so_far [] = so_far
worst_of so_far (o ∷ os) = worst_of (or_worse so_far o.status) os
