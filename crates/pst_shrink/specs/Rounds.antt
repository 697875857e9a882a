-- Trying the candidates of one case.
use Rattle.std.specs.Prelude.{◌≡◌, ℕ, ◌+◌, length}
use Rattle.pst_case.specs.declared.case.Case.{Case}
use Rattle.pst_shrink.specs.Candidates.{candidates}
use Rattle.pst_shrink.specs.Outcomes.{Answers}
use Rattle.pst_shrink.specs.Shrinking.{ArePassed, IsTaken, IsEnd}
use Rattle.pst_shrink.specs.declared.shrinking.Round.{Round}
use Rattle.pst_shrink.specs.declared.shrinking.Round.TheVariants.{Took, Ended}

-- What the candidates of a case came to, where the count of driven cases was `old` before and is `new` after:
-- the first that broke and how many may still be driven, or none of those that were tried broke.
abbrev pub IsRound : {H : Type 0} → Answers H → Case → (old new limit : ℕ) → Round H → Type 0
IsRound R c old new limit (Took u left) = IsTaken R c u × (new + left ≡ old + limit)
IsRound R c old new limit (Ended tried ending) =
    ArePassed R (candidates c) tried × IsEnd ending (length tried) (length (candidates c)) new (old + limit)
