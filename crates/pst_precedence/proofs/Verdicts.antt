-- What the verdicts on a run say of its explanations.
use Rattle.std.proofs.Common.{◌≡◌, ℕ, Bool, true, false, List, Option, Some, None, refl, sym, subst}
use Rattle.pst_case.specs.Recorded.{recorded}
use Rattle.pst_case.specs.declared.case.Case.{Case}
use Rattle.pst_case.specs.declared.history.CallTime.{CallTime}
use Rattle.pst_case.specs.declared.history.History.{History}
use Rattle.pst_judge.proofs.ByOrder.{times_fit, fitting_fit}
use Rattle.pst_judge.proofs.InOrder.{merge_in_any_order}
use Rattle.pst_judge.specs.ByOrder.{order_by, order_of, times_of}
use Rattle.pst_judge.specs.InOrder.{IsRunInOrder, IsVerdictInOrder, IsVerdictOfAmong}
use Rattle.pst_judge.specs.InTime.{AreTimesOf}
use Rattle.pst_judge.specs.OrderLaws.{IsExplained}
use Rattle.pst_judge.specs.RealTime.{real_time}
use Rattle.pst_judge.specs.Replay.{post_asked, branch_lengths}
use Rattle.pst_judge.specs.Verdict.{first_broken, IsVerdict, IsVerdictOf, IsJudged}
use Rattle.pst_judge.specs.declared.by_order.CallOrder.TheVariants.{Time}
use Rattle.pst_judge.specs.declared.judgement.Verdict.{Verdict}
use Rattle.pst_judge.specs.declared.judgement.Verdict.TheVariants.{Explained, Faulted, Unexplained, Broken}
use Rattle.pst_model.specs.declared.model.Source.{Source}
use Rattle.pst_precedence.specs.Deleting.{is_explained, IsWhetherExplained}
use Rattle.pst_precedence.specs.Precedences.{HasNoObstacle, IsExplainedIn}

module _ (m : Source) (c : Case) (h : History) where
  -- ---- over all interleavings

  -- the replies of a run that is explained are all values
  pub answered : (v : Verdict) → IsVerdict m c h v → is_explained v ≡ true → first_broken 1 (recorded h) ≡ None
  answered v is e = by (first_broken 1 (recorded h)) is
    where
      broken : (number : ℕ) (v : Verdict) → v ≡ Broken number → is_explained v ≡ true → ⊥
      broken number (Explained word) k j = cc
      broken number (Faulted place) k j = cc
      broken number (Unexplained far) k j = cc
      broken number (Broken other) k j = cc

      by : (o : Option ℕ) → IsVerdictOf m c h o v → o ≡ None
      by None k = refl
      by (Some number) k = absurd (broken number v k e)

  not_explained : (v w : Verdict) → IsJudged m c h v → is_explained v ≡ false → IsJudged m c h w → IsExplained w → ⊥
  not_explained (Explained word) w k e j f = cc
  not_explained (Faulted place) (Explained word) k e j f = k.0 word.items j.0
  not_explained (Unexplained far) (Explained word) k e j f = k.0 word.items j.0
  not_explained (Broken number) w k e j f = k
  not_explained v (Faulted place) k e j f = f
  not_explained v (Unexplained far) k e j f = f
  not_explained v (Broken number) k e j f = f

  broken_not_explained : (number : ℕ) (w : Verdict) → w ≡ Broken number → IsExplained w → ⊥
  broken_not_explained number (Explained word) k f = cc
  broken_not_explained number (Faulted place) k f = f
  broken_not_explained number (Unexplained far) k f = f
  broken_not_explained number (Broken other) k f = f

  -- if one verdict does not explain, none does
  pub no_explanation : (v : Verdict) → IsVerdict m c h v → is_explained v ≡ false → HasNoObstacle m c h
  no_explanation v is e w also f = absurd (by (first_broken 1 (recorded h)) is also)
    where
      by : (o : Option ℕ) → IsVerdictOf m c h o v → IsVerdictOf m c h o w → ⊥
      by None k j = not_explained v w k e j f
      by (Some number) k j = broken_not_explained number w j f

  -- without times all interleavings are in order
  pub untimed : times_of c h ≡ None → HasNoObstacle m c h
  untimed none v is f = by v (first_broken 1 (recorded h)) is f
    where
      by : (v : Verdict) (o : Option ℕ) → IsVerdictOf m c h o v → IsExplained v → IsExplainedIn m (order_of (times_of c h)) c h
      by (Explained word) None k f =
          subst (λ o. IsExplainedIn m (order_of o) c h) (sym none) (word.items, merge_in_any_order (branch_lengths c) word.items k.0.0, k.0.1)
      by (Explained word) (Some number) k f = absurd (broken_not_explained number (Explained word) k f)
      by (Faulted place) o k f = absurd f
      by (Unexplained far) o k f = absurd f
      by (Broken number) o k f = absurd f

  -- ---- over the interleavings in an order

  pub whether : (order : List ℕ → ℕ → Bool) (v : Verdict) → IsVerdictInOrder m order c h v → first_broken 1 (recorded h) ≡ None → IsWhetherExplained m order c h (is_explained v)
  whether order v is none = by v (subst (λ o. IsVerdictOfAmong m (post_asked m) c h (IsRunInOrder order c) o v) none is)
    where
      by : (v : Verdict) → IsVerdictOfAmong m (post_asked m) c h (IsRunInOrder order c) None v → IsWhetherExplained m order c h (is_explained v)
      by (Explained word) k = (word.items, k.0.0, k.0.1)
      by (Faulted place) k = λ word in_order all. k.0 word (in_order, all)
      by (Unexplained far) k = λ word in_order all. k.0 word (in_order, all)
      by (Broken number) k = absurd k

  -- ---- in the order of time

  module _ (times : List (List CallTime)) (fitting : times_of c h ≡ Some times) where
    pub fitting_times : AreTimesOf (branch_lengths c) times
    fitting_times = times_fit (branch_lengths c) times (fitting_fit (branch_lengths c) h.times times fitting)

    pub in_time : (v : Verdict) → IsVerdictInOrder m (order_by Time c h) c h v → IsVerdictInOrder m (real_time times) c h v
    in_time v is = subst (λ o. IsVerdictInOrder m (order_of o) c h v) fitting is

    -- one in the order of time explains the run
    pub explained_in_time : IsExplainedIn m (real_time times) c h → HasNoObstacle m c h
    explained_in_time explained v is f = subst (λ o. IsExplainedIn m (order_of o) c h) (sym fitting) explained
