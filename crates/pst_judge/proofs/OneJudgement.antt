-- A history has one verdict, and a case one reason not to be valid.
use Rattle.std.proofs.Common.{◌≡◌, ℕ, List, [], ◌∷◌, Option, Some, None, refl, sym, ap, ◌∙◌, subst, inl, inr, arith}
use Rattle.pst_case.specs.declared.case.Case.{Case}
use Rattle.pst_case.specs.declared.history.History.{History}
use Rattle.pst_grid.specs.Merges.{IsUpTo, IsLeast}
use Rattle.pst_grid.specs.declared.steps.Ending.TheVariants.{AllTrue, StopsAt}
use Rattle.pst_grid.specs.declared.steps.StopReason.TheVariants as stop
use Rattle.pst_judge.specs.Judgement.{IsJudgementOf}
use Rattle.pst_judge.specs.Verdict.{IsVerdict}
use Rattle.pst_judge.specs.Replay.{replayed}
use Rattle.pst_case.specs.Recorded.{recorded}
use Rattle.pst_judge.specs.Same.{SameVerdict, SameWhy, SameJudgement, OneVerdict, OneWhy, OneJudgement}
use Rattle.pst_judge.specs.Symbolic.{symbolic}
use Rattle.pst_judge.specs.Validity.{IsValid, Fails, FailsFirst, IsWhy}
use Rattle.pst_judge.specs.Verdict.{first_broken, Ends, FaultsAt, IsJudged, IsVerdictOf}
use Rattle.pst_judge.specs.declared.judgement.Judged.{Judged}
use Rattle.pst_judge.specs.declared.judgement.Judged.TheVariants.{Verdict as WithVerdict, Valid, Invalid}
use Rattle.pst_eval.specs.declared.callbacks.FaultPlace.{FaultPlace}
use Rattle.pst_judge.specs.declared.symbolic.SymbolicFailure.{SymbolicFailure}
use Rattle.pst_judge.specs.declared.symbolic.SymbolicFailure.TheVariants as failing
use Rattle.pst_judge.specs.declared.judgement.Verdict.{Verdict}
use Rattle.pst_judge.specs.declared.judgement.Verdict.TheVariants.{Explained, Faulted, Unexplained, Broken}
use Rattle.pst_judge.specs.declared.validated.Why.{Why}
use Rattle.pst_judge.specs.declared.validated.Why.TheVariants.{PreFalse, CallbackFault, NoMemory}
use Rattle.pst_model.specs.declared.model.Source.{Source}

-- ---- words

both_ways : (a b : ℕ) (v w : List ℕ) → IsUpTo (a ∷ v) (b ∷ w) → IsUpTo (b ∷ w) (a ∷ v) → (a ≡ b) × IsUpTo v w × IsUpTo w v
both_ways a b v w (inl p) (inl q) = absurd (omega (arith, p, q))
both_ways a b v w (inl p) (inr q) = absurd (omega (arith, p, q.0))
both_ways a b v w (inr p) (inl q) = absurd (omega (arith, p.0, q))
both_ways a b v w (inr p) (inr q) = (p.0, p.1, q.1)

-- of two words, each up to the other
one_word : (v w : List ℕ) → IsUpTo v w → IsUpTo w v → v ≡ w
one_word [] [] p q = refl
one_word [] (b ∷ w) p q = absurd q
one_word (a ∷ v) [] p q = absurd p
one_word (a ∷ v) (b ∷ w) p q =
    let r = both_ways a b v w p q in
    ap (λ x. x ∷ v) r.0 ∙ ap (λ x. b ∷ x) (one_word v w r.1 r.2)

pub one_least : (P : List ℕ → Type 0) (v w : List ℕ) → IsLeast P v → IsLeast P w → v ≡ w
one_least P v w p q = one_word v w (p.1 w q.0) (q.1 v p.0)

-- ---- endings

pub fault_is : {F : Type 0} (n k : ℕ) (f g : F) → StopsAt n (stop.Fault f) ≡ StopsAt k (stop.Fault g) → f ≡ g
fault_is n k f g e = cc

pre_false : (n k : ℕ) → failing.PreFalse n ≡ failing.PreFalse k → n ≡ k
pre_false n k e = cc

at_place : (p q : FaultPlace) → failing.CallbackFault p ≡ failing.CallbackFault q → p ≡ q
at_place p q e = cc

-- ---- verdicts

module _ (m : Source) (c : Case) (h : History) where
  one_judged : (v w : Verdict) → IsJudged m c h v → IsJudged m c h w → SameVerdict v w
  one_judged (Explained word) (Explained other) p q =
      one_least (Ends m c h AllTrue) word.items other.items p q
  one_judged (Explained word) (Faulted place) p q = absurd (q.0 word.items p.0)
  one_judged (Explained word) (Unexplained far) p q = absurd (q.0 word.items p.0)
  one_judged (Explained word) (Broken number) p q = absurd q
  one_judged (Faulted place) (Explained word) p q = absurd (p.0 word.items q.0)
  one_judged (Faulted place) (Faulted other) p q =
      let w = one_least (FaultsAt m c h) p.1.0 q.1.0 p.1.1 q.1.1 in
      fault_is p.1.2.0 q.1.2.0 place other (sym p.1.2.1 ∙ ap (replayed m c h) w ∙ q.1.2.1)
  one_judged (Faulted place) (Unexplained far) p q = absurd (q.1 p.1.0 p.1.1.0)
  one_judged (Faulted place) (Broken number) p q = absurd q
  one_judged (Unexplained far) (Explained word) p q = absurd (p.0 word.items q.0)
  one_judged (Unexplained far) (Faulted place) p q = absurd (p.1 q.1.0 q.1.1.0)
  one_judged (Unexplained far) (Unexplained other) p q =
      omega (arith, p.3 q.2.0 other q.2.1, q.3 p.2.0 far p.2.1)
  one_judged (Unexplained far) (Broken number) p q = absurd q
  one_judged (Broken number) w p q = absurd p

  broken_is : (n k : ℕ) → Broken n ≡ Broken k → n ≡ k
  broken_is n k e = cc

  broken_once : (number : ℕ) (v w : Verdict) → v ≡ Broken number → w ≡ Broken number → SameVerdict v w
  broken_once number v w p q = subst (λ v. SameVerdict v w) (sym p) (subst (SameVerdict (Broken number)) (sym q) refl)

  one_of : (broken : Option ℕ) (v w : Verdict) → IsVerdictOf m c h broken v → IsVerdictOf m c h broken w → SameVerdict v w
  one_of None v w p q = one_judged v w p q
  one_of (Some number) v w p q = broken_once number v w p q

pub one_verdict : OneVerdict
one_verdict m c h v w p q = one_of m c h (first_broken 1 (recorded h)) v w p q

-- ---- reasons

module _ (m : Source) (c : Case) where
  one_failing : (f g : SymbolicFailure) (v w : List ℕ) → FailsFirst m c f v → FailsFirst m c g w → (f ≡ g) × (v ≡ w)
  one_failing f g v w p q =
      let e = one_least (Fails m c) v w p.0 q.0 in
      (fault_is p.1.0 q.1.0 f g (sym p.1.1 ∙ ap (symbolic m c) e ∙ q.1.1), e)

  one_reason : (v w : Why) → IsWhy m c v → IsWhy m c w → SameWhy v w
  one_reason (PreFalse command merge) (PreFalse other word) p q =
      let r = one_failing (failing.PreFalse command) (failing.PreFalse other) merge.items word.items p q in
      (pre_false command other r.0, r.1)
  one_reason (PreFalse command merge) (CallbackFault place word) p q =
      absurd (let r : failing.PreFalse command ≡ failing.CallbackFault place = (one_failing (failing.PreFalse command) (failing.CallbackFault place) merge.items word.items p q).0 in cc)
  one_reason (PreFalse command merge) NoMemory p q = absurd q
  one_reason (CallbackFault place merge) (PreFalse command word) p q =
      absurd (let r : failing.CallbackFault place ≡ failing.PreFalse command = (one_failing (failing.CallbackFault place) (failing.PreFalse command) merge.items word.items p q).0 in cc)
  one_reason (CallbackFault place merge) (CallbackFault other word) p q =
      let r = one_failing (failing.CallbackFault place) (failing.CallbackFault other) merge.items word.items p q in
      (at_place place other r.0, r.1)
  one_reason (CallbackFault place merge) NoMemory p q = absurd q
  one_reason NoMemory w p q = absurd p

  -- a case that is valid has no reason not to be
  valid_no_why : (v : Why) → IsValid m c → IsWhy m c v → ⊥
  valid_no_why (PreFalse command merge) p q = q.0.0.1 (p merge.items q.0.0.0)
  valid_no_why (CallbackFault place merge) p q = q.0.0.1 (p merge.items q.0.0.0)
  valid_no_why NoMemory p q = q

  one_judgement_of : (h : Option History) (v w : Judged) → IsJudgementOf m c (IsVerdict m c) h v → IsJudgementOf m c (IsVerdict m c) h w → SameJudgement v w
  one_judgement_of None (WithVerdict v) w p q = absurd p
  one_judgement_of None Valid (WithVerdict w) p q = absurd q
  one_judgement_of None Valid Valid p q = record {}
  one_judgement_of None Valid (Invalid why) p q = absurd (valid_no_why why p q)
  one_judgement_of None (Invalid why) (WithVerdict w) p q = absurd q
  one_judgement_of None (Invalid why) Valid p q = absurd (valid_no_why why q p)
  one_judgement_of None (Invalid why) (Invalid other) p q = one_reason why other p q
  one_judgement_of (Some h) (WithVerdict v) (WithVerdict w) p q = one_verdict m c h v w p q
  one_judgement_of (Some h) (WithVerdict v) Valid p q = absurd q
  one_judgement_of (Some h) (WithVerdict v) (Invalid why) p q = absurd q
  one_judgement_of (Some h) Valid w p q = absurd p
  one_judgement_of (Some h) (Invalid why) w p q = absurd p

pub one_why : OneWhy
one_why m c v w p q = one_reason m c v w p q

pub one_judgement : OneJudgement
one_judgement m run v w p q = one_judgement_of m run.shaped.case run.history v w p q
