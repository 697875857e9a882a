-- Over all interleavings a history with calls of unknown outcome has one verdict, and an item one judgement.
use Rattle.std.proofs.Common.{◌≡◌, ℕ, Bool, true, false, List, [], ◌∷◌, Option, Some, None, sym, ap, ◌∙◌, refl, subst, inl, inr, arith}
use Rattle.std.specs.Prelude.{MatchBool}
use Rattle.pst_case.specs.OfModel.{OfModel}
use Rattle.pst_case.specs.Unknown.{has_unknown}
use Rattle.pst_case.specs.declared.case.Case.{Case}
use Rattle.pst_case.specs.declared.history.History.{History}
use Rattle.pst_case.specs.declared.history.Run.{Run}
use Rattle.pst_grid.specs.Merges.{none_done}
use Rattle.pst_grid.specs.Orders.{any_order}
use Rattle.pst_grid.specs.declared.steps.Ending.TheVariants.{AllTrue}
use Rattle.pst_judge.proofs.OneJudgement.{one_least, fault_is}
use Rattle.pst_judge.specs.ByOrder.{IsVerdictBy}
use Rattle.pst_judge.specs.Judgement.{IsJudgementOf, IsJudgementBy}
use Rattle.pst_judge.specs.Replay.{Asking, post_asked}
use Rattle.pst_judge.specs.Same.{SameVerdict, SameJudgement, OneJudgement}
use Rattle.pst_judge.specs.Unknown.{CallsEnd, CallsFault, IsJudgedOfCalls, IsVerdictOfCallsOf, replayed_calls, effective}
use Rattle.pst_judge.specs.UnknownCalls.{broken_command, known_counts}
use Rattle.pst_judge.specs.declared.by_order.CallOrder.TheVariants.{Any}
use Rattle.pst_judge.specs.declared.judgement.Judged.{Judged}
use Rattle.pst_judge.specs.declared.judgement.Judged.TheVariants.{Verdict as Told, Valid, Invalid}
use Rattle.pst_judge.specs.declared.judgement.Verdict.{Verdict}
use Rattle.pst_judge.specs.declared.judgement.Verdict.TheVariants.{Explained, Faulted, Unexplained, Broken}
use Rattle.pst_model.specs.declared.model.Source.{Source}

-- ---- verdicts

module _ (m : Source) (asked : Asking) (order : List ℕ → ℕ → Bool) (c : Case) (h : History) where
  one_judged : (v w : Verdict) → IsJudgedOfCalls m asked order c h v → IsJudgedOfCalls m asked order c h w → SameVerdict v w
  one_judged (Explained word) (Explained other) p q =
      p.2 ∙ ap (effective (known_counts c h) (none_done (known_counts c h))) (one_least (CallsEnd m asked order c h AllTrue) p.0 q.0 p.1 q.1) ∙ sym q.2
  one_judged (Explained word) (Faulted place) p q = absurd (q.0 p.0 p.1.0)
  one_judged (Explained word) (Unexplained far) p q = absurd (q.0 p.0 p.1.0)
  one_judged (Explained word) (Broken number) p q = absurd q
  one_judged (Faulted place) (Explained word) p q = absurd (p.0 q.0 q.1.0)
  one_judged (Faulted place) (Faulted other) p q =
      let w = one_least (CallsFault m asked order c h) p.1.0 q.1.0 p.1.1 q.1.1 in
      fault_is p.1.2.0 q.1.2.0 place other (sym p.1.2.1 ∙ ap (replayed_calls m asked c h) w ∙ q.1.2.1)
  one_judged (Faulted place) (Unexplained far) p q = absurd (q.1 p.1.0 p.1.1.0)
  one_judged (Faulted place) (Broken number) p q = absurd q
  one_judged (Unexplained far) (Explained word) p q = absurd (p.0 q.0 q.1.0)
  one_judged (Unexplained far) (Faulted place) p q = absurd (p.1 q.1.0 q.1.1.0)
  one_judged (Unexplained far) (Unexplained other) p q =
      omega (arith, p.3 q.2.0 other q.2.1, q.3 p.2.0 far p.2.1)
  one_judged (Unexplained far) (Broken number) p q = absurd q
  one_judged (Broken number) w p q = absurd p

  broken_once : (number : ℕ) (v w : Verdict) → v ≡ Broken number → w ≡ Broken number → SameVerdict v w
  broken_once number v w p q = subst (λ v. SameVerdict v w) (sym p) (subst (SameVerdict (Broken number)) (sym q) refl)

  one_of : (broken : Option ℕ) (v w : Verdict)
      → IsVerdictOfCallsOf m asked order c h broken v → IsVerdictOfCallsOf m asked order c h broken w → SameVerdict v w
  one_of None v w p q = one_judged v w p q
  one_of (Some number) v w p q = broken_once number v w p q

-- ---- judgements

in_either : (b : Bool) {A B C D R : Type 0} → (A → C → R) → (B → D → R) → MatchBool b A B → MatchBool b C D → R
in_either true f g p q = f p q
in_either false f g p q = g p q

module _ (k : OneJudgement) (m : Source) (s : OfModel) where
  one_item : (h : Option History) (v w : Judged)
      → IsJudgementOf m s.case (IsVerdictBy Any m s.case) h v → IsJudgementOf m s.case (IsVerdictBy Any m s.case) h w
      → SameJudgement v w
  one_item None (Told v) w p q = absurd p
  one_item None Valid (Told w) p q = absurd q
  one_item None Valid Valid p q = k m (record { shaped = s; history = None }) Valid Valid p q
  one_item None Valid (Invalid why) p q = k m (record { shaped = s; history = None }) Valid (Invalid why) p q
  one_item None (Invalid why) (Told w) p q = absurd q
  one_item None (Invalid why) Valid p q = k m (record { shaped = s; history = None }) (Invalid why) Valid p q
  one_item None (Invalid why) (Invalid other) p q =
      k m (record { shaped = s; history = None }) (Invalid why) (Invalid other) p q
  one_item (Some h) (Told v) (Told w) p q =
      in_either (has_unknown h)
      (one_of m (post_asked m) any_order s.case h (broken_command m s.case h) v w)
      (k m (record { shaped = s; history = Some h }) (Told v) (Told w)) p q
  one_item (Some h) (Told v) Valid p q = absurd q
  one_item (Some h) (Told v) (Invalid why) p q = absurd q
  one_item (Some h) Valid w p q = absurd p
  one_item (Some h) (Invalid why) w p q = absurd p

pub one_by_any : OneJudgement → (m : Source) (run : Run) (v w : Judged)
    → IsJudgementBy Any m run v → IsJudgementBy Any m run w → SameJudgement v w
one_by_any k m run v w p q = one_item k m run.shaped run.history v w p q
