-- The lines of refusals.
use Rattle.std.specs.Prelude.{ℕ, List, [], ◌∷◌, ◌++◌, codes}
use Rattle.pst_typing.specs.Loading.{text_of}
use Rattle.pst_typing.specs.declared.loading.Refusal.{Refusal}

-- the end of a line
abbrev pub line_end : List ℕ
line_end = 10 ∷ []

-- the line of a refusal
abbrev pub refusal_line : Refusal → List ℕ
refusal_line refusal = codes "refused " ++ text_of refusal ++ line_end
