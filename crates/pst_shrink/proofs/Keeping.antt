-- What is known of an attempt, and of the candidates that it was asked for.
use Rattle.std.proofs.Common.{◌≡◌, ℕ, ◌+◌, ◌<◌, List, [], ◌∷◌, ◌++◌, Option, Some, length, slice_get, get_or, refl}
use Rattle.pst_case.specs.declared.case.Case.{Case}
use Rattle.pst_shrink.specs.Outcomes.{Answers, IsKept, passed_outcome}
use Rattle.std.proofs.lemmas.Option.{slice_get_read, slice_get_within, get_or_from_slice_get}
use Rattle.pst_shrink.specs.Candidates.{candidates}
use Rattle.pst_shrink.specs.Shrinking.{FaultIsReal, ArePassed, IsTaken, IsEnd, first_of, IsTrail}
use Rattle.pst_shrink.specs.Rounds.{IsRound}
use Rattle.pst_shrink.specs.declared.shrinking.AttemptOutcome.{AttemptOutcome}
use Rattle.pst_shrink.specs.declared.shrinking.AttemptOutcome.TheVariants.{Broke}
use Rattle.pst_shrink.specs.declared.shrinking.FailingCase.{FailingCase}
use Rattle.pst_shrink.specs.declared.shrinking.ShrinkEnd.{ShrinkEnd}
use Rattle.pst_shrink.specs.declared.shrinking.Round.{Round}
use Rattle.pst_shrink.specs.declared.shrinking.Round.TheVariants.{Took, Ended}
use Rattle.pst_shrink.specs.declared.shrinking.ShrinkFault.{ShrinkFault}
use Rattle.pst_shrink.specs.declared.shrinking.ShrinkFault.TheVariants.{«Attempt» as AttemptFault, NoMemory}
use Rattle.pst_shrink.specs.Weight.{weight}
use Rattle.pst_shrink.proofs.Lesser.{lesser}

-- what was answered since may be answered from the first
pub answered : {H F : Type 0} {R S : Answers H} {P Q : F → Type 0}
    → IsKept R S P Q → (c : Case) (o : AttemptOutcome H) → S c o → R c o
answered k c o h = (k.answers c o).0 h

pub failed : {H F : Type 0} {R S : Answers H} {P Q : F → Type 0} → IsKept R S P Q → (f : F) → Q f → P f
failed k f h = (k.fails f).0 h

-- one candidate more was passed over
pub passed_more : {H : Type 0} (R : Answers H) (cs : List Case) (ts : List (Option (List H))) (c : Case)
    (t : Option (List H))
    → ArePassed R cs ts
    → slice_get cs (length ts) ≡ Some c → R c (passed_outcome t) → ArePassed R cs (ts ++ t ∷ [])
passed_more R [] [] c t h e p = absurd (cc)
passed_more R [] (x ∷ ts) c t h e p = absurd h
passed_more R (d ∷ cs) [] c t h e p = let same : d ≡ c = cc in (rw same p, tt)
passed_more R (d ∷ cs) (x ∷ ts) c t h e p = (h.0, passed_more R cs ts c t h.1 e p)

module _ {H : Type 0} (R : Answers H) where
  pub first_more : (ts : List (FailingCase H)) (last u : FailingCase H) → first_of (ts ++ last ∷ []) u ≡ first_of ts last
  first_more [] last u = refl
  first_more (t ∷ ts) last u = refl

  -- one case more was taken
  pub trail_more : (ts : List (FailingCase H)) (last u : FailingCase H)
      → IsTrail R ts last → IsTaken R last.case u → IsTrail R (ts ++ last ∷ []) u
  trail_more [] last u h taken = (taken, tt)
  trail_more (t ∷ ts) last u h taken = (rw (first_more ts last u) h.0, trail_more ts last u h.1 taken)

-- the first that broke is taken
pub taken : {H : Type 0} {R S : Answers H} {F : Type 0} {P Q : F → Type 0} (k : IsKept R S P Q) (c : Case)
    (ts : List (Option (List H))) (o : AttemptOutcome H) (x y : Case) (earlier : List H) (h : H)
    → ArePassed R (candidates c) ts → slice_get (candidates c) (length ts) ≡ Some x → y ≡ x
    → S x o → o ≡ Broke earlier h → IsTaken R c (record { case = y; history = h })
taken {R = R} k c ts o x y earlier h passed next same answer broke =
    record {
      tried = ts;
      passed = passed;
      next = rw same next;
      earlier = earlier;
      broke = let e : R x o = answered k x o answer in rw same (rw broke at e);
    }

-- the candidate that is asked for
pub next_at : {T : Type 0} (cs xs ys : List Case) (ts : List T) (x : Case) (at n : ℕ)
    → ys ≡ xs → xs ≡ cs → length ts ≡ at → n ≡ length cs → at < n
    → x ≡ get_or ys at x → slice_get cs (length ts) ≡ Some x
next_at cs xs ys ts x at n a b count e within is =
    let whole : x ≡ get_or cs (length ts) x = rw (count, ← b, ← a) is in
    slice_get_read cs n (length ts) x e (rw count within) whole

-- the candidate that was asked for is passed over
pub passed_next : {H F : Type 0} {R S : Answers H} {P Q : F → Type 0} (k : IsKept R S P Q) (cs : List Case)
    (ts us : List (Option (List H))) (c : Case) (o : AttemptOutcome H) (t : Option (List H))
    → ArePassed R cs ts
    → slice_get cs (length ts) ≡ Some c → S c o → o ≡ passed_outcome t → us ≡ ts ++ t ∷ [] → ArePassed R cs us
passed_next {R = R} k cs ts us c o t passed next answer is grown =
    let e : R c o = answered k c o answer in
    rw grown (passed_more R cs ts c t passed next (rw is at e))

-- a round that took a candidate
pub took : {H : Type 0} (R : Answers H) (c : Case) (old new limit : ℕ) (r : Round H) (u : FailingCase H) (left : ℕ)
    → IsRound R c old new limit r → r ≡ Took u left
    → IsTaken R c u × (new + left ≡ old + limit)
took R c old new limit r u left h is = rw is at h

-- a round that ended
pub ended : {H : Type 0} (R : Answers H) (c : Case) (old new limit : ℕ) (r : Round H)
    (tried : List (Option (List H))) (e : ShrinkEnd)
    → IsRound R c old new limit r → r ≡ Ended tried e
    → ArePassed R (candidates c) tried × IsEnd e (length tried) (length (candidates c)) new (old + limit)
ended R c old new limit r tried e h is = rw is at h

-- a case that was taken weighs less
pub taken_is_lesser : {H : Type 0} (R : Answers H) (c : Case) (u : FailingCase H)
    → IsTaken R c u → weight u.case < weight c
taken_is_lesser R c u h =
    let below : weight (get_or (candidates c) (length h.tried) u.case) < weight c =
    lesser c (length h.tried) u.case (slice_get_within (candidates c) (length h.tried) u.case h.next) in
    rw (get_or_from_slice_get (candidates c) (length h.tried) u.case u.case h.next) at below

-- a fault that may be answered since might be answered from the first
pub fault_kept : {H F : Type 0} {R S : Answers H} {P Q : F → Type 0} (k : IsKept R S P Q) (e : ShrinkFault F)
    → FaultIsReal Q e → FaultIsReal P e
fault_kept k (AttemptFault f) h = failed k f h
fault_kept k NoMemory h = tt
