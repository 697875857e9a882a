-- What is known by one relation of answers is known by each that it implies.
use Rattle.std.proofs.Common.{List, [], ◌∷◌, Option, ℕ}
use Rattle.pst_case.specs.declared.case.Case.{Case}
use Rattle.pst_shrink.specs.Candidates.{candidates}
use Rattle.pst_shrink.specs.Outcomes.{Answers, passed_outcome}
use Rattle.pst_shrink.specs.Shrinking.{ArePassed, IsTaken, first_of, IsTrail, IsShrunk}
use Rattle.pst_shrink.specs.declared.shrinking.AttemptOutcome.{AttemptOutcome}
use Rattle.pst_shrink.specs.declared.shrinking.AttemptOutcome.TheVariants.{Broke}
use Rattle.pst_shrink.specs.declared.shrinking.FailingCase.{FailingCase}
use Rattle.pst_shrink.specs.declared.shrinking.Shrunk.{Shrunk}

module _ {H : Type 0} (S R : Answers H) (to : (c : Case) (o : AttemptOutcome H) → S c o → R c o) where
  pub passed_moves : (cs : List Case) (ts : List (Option (List H))) → ArePassed S cs ts → ArePassed R cs ts
  passed_moves cs [] h = tt
  passed_moves [] (t ∷ ts) h = h
  passed_moves (c ∷ cs) (t ∷ ts) h = (to c (passed_outcome t) h.0, passed_moves cs ts h.1)

  pub taken_moves : (c : Case) (u : FailingCase H) → IsTaken S c u → IsTaken R c u
  taken_moves c u h = record {
    tried = h.tried;
    passed = passed_moves (candidates c) h.tried h.passed;
    next = h.next;
    earlier = h.earlier;
    broke = to u.case (Broke h.earlier u.history) h.broke;
  }

  pub trail_moves : (ts : List (FailingCase H)) (last : FailingCase H) → IsTrail S ts last → IsTrail R ts last
  trail_moves [] last h = tt
  trail_moves (t ∷ ts) last h = (taken_moves t.case (first_of ts last) h.0, trail_moves ts last h.1)

  pub shrunk_moves : (first : FailingCase H) (old new limit : ℕ) (s : Shrunk H)
      → IsShrunk S first old new limit s → IsShrunk R first old new limit s
  shrunk_moves first old new limit s h = record {
    begins = h.begins;
    trail = trail_moves s.before s.last h.trail;
    passed = passed_moves (candidates s.last.case) s.tried h.passed;
    ended = h.ended;
  }
