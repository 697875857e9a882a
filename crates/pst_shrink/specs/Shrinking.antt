-- How a case is shrunk. R says which outcomes may be answered of which case.
use Rattle.std.specs.Prelude.{◌≡◌, ℕ, ◌+◌, ◌<◌, List, [], ◌∷◌, Option, Some, length, slice_get}
use Rattle.pst_case.specs.declared.case.Case.{Case}
use Rattle.pst_shrink.specs.Candidates.{candidates}
use Rattle.pst_shrink.specs.Outcomes.{Answers, passed_outcome}
use Rattle.pst_shrink.specs.declared.shrinking.AttemptOutcome.TheVariants.{Broke}
use Rattle.pst_shrink.specs.declared.shrinking.ShrinkFault.{ShrinkFault}
use Rattle.pst_shrink.specs.declared.shrinking.ShrinkFault.TheVariants.{«Attempt» as AttemptFault, NoMemory}
use Rattle.pst_shrink.specs.declared.shrinking.FailingCase.{FailingCase}
use Rattle.pst_shrink.specs.declared.shrinking.ShrinkEnd.{ShrinkEnd}
use Rattle.pst_shrink.specs.declared.shrinking.ShrinkEnd.TheVariants.{Minimal, Stopped}
use Rattle.pst_shrink.specs.declared.shrinking.Shrunk.{Shrunk}

-- The first of these cases were tried and passed over, as many as have an entry in the other list: each is
-- not valid (None), or was driven and its histories, which the entry has, hold.
abbrev pub ArePassed : {H : Type 0} → Answers H → List Case → List (Option (List H)) → Type 0
ArePassed R cs [] = Unit {0}
ArePassed R [] (t ∷ ts) = ⊥
ArePassed R (c ∷ cs) (t ∷ ts) = R c (passed_outcome t) × ArePassed R cs ts

-- The case that is taken after c is the first of its candidates that broke, with the history that broke it:
-- those before it were passed over.
pub record IsTaken {H : Type 0} (R : Answers H) (c : Case) (u : FailingCase H) : Type 0 where
  pub tried : List (Option (List H))
  pub passed : ArePassed R (candidates c) tried
  pub next : slice_get (candidates c) (length tried) ≡ Some u.case
  pub earlier : List H
  pub broke : R u.case (Broke earlier u.history)

-- the first of the cases that were taken, of which the last stands apart
abbrev pub first_of : {H : Type 0} → List (FailingCase H) → FailingCase H → FailingCase H
first_of [] last = last
first_of (t ∷ ts) last = t

-- each case but for the last is followed by the one that is taken after it
abbrev pub IsTrail : {H : Type 0} → Answers H → List (FailingCase H) → FailingCase H → Type 0
IsTrail R [] last = Unit {0}
IsTrail R (t ∷ ts) last = IsTaken R t.case (first_of ts last) × IsTrail R ts last

-- How it ended, where so many of all candidates of the last case were tried, and the count of driven cases
-- came to `driven`, which may be at most `most`: all candidates were tried, or one was not and the count is
-- that most.
abbrev pub IsEnd : ShrinkEnd → (tried all driven most : ℕ) → Type 0
IsEnd Minimal tried all driven most = tried ≡ all
IsEnd Stopped tried all driven most = (tried < all) × (driven ≡ most)

-- What shrinking gives, where the count of driven cases was `old` before it and is `new` after it: it begins
-- with the first case, each case that is taken is the first candidate that broke of the one before, and no
-- candidate of the last case that was tried broke.
pub record IsShrunk {H : Type 0} (R : Answers H) (first : FailingCase H) (old new limit : ℕ) (s : Shrunk H)
    : Type 0 where
  pub begins : first_of s.before s.last ≡ first
  pub trail : IsTrail R s.before s.last
  pub passed : ArePassed R (candidates s.last.case) s.tried
  pub ended : IsEnd s.ending (length s.tried) (length (candidates s.last.case)) new (old + limit)

-- a fault is one that the attempt may answer, or memory was refused
abbrev pub FaultIsReal : {F : Type 0} → (F → Type 0) → ShrinkFault F → Type 0
FaultIsReal P (AttemptFault f) = P f
FaultIsReal P NoMemory = Unit {0}
