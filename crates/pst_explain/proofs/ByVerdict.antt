-- What a verdict by an order of the calls says of the interleavings in it.
use Rattle.std.proofs.Common.{◌≡◌, ℕ, List, Bool, false, Option, Some, None, refl, subst}
use Rattle.std.specs.Prelude.{MatchBool}
use Rattle.pst_case.specs.Recorded.{recorded}
use Rattle.pst_case.specs.Unknown.{has_unknown}
use Rattle.pst_case.specs.declared.case.Case.{Case}
use Rattle.pst_case.specs.declared.history.CallTime.{CallTime}
use Rattle.pst_case.specs.declared.history.History.{History}
use Rattle.pst_judge.proofs.ByOrder.{times_fit, fitting_fit}
use Rattle.pst_judge.proofs.InOrder.{any_from_verdict, same_verdict}
use Rattle.pst_judge.proofs.InTime.{order_to_time, time_to_order}
use Rattle.pst_judge.specs.ByOrder.{times_of, IsVerdictTimed, IsVerdictOfKnown, IsVerdictBy, order_of, order_by, calls_order_by}
use Rattle.pst_judge.specs.InOrder.{IsRunInOrder, IsVerdictInOrder, IsVerdictOfAmong, IsJudgedAmong}
use Rattle.pst_judge.specs.InTime.{IsMergeInTime}
use Rattle.pst_judge.specs.RealTime.{real_time}
use Rattle.pst_judge.specs.Replay.{post_asked, branch_lengths}
use Rattle.pst_judge.specs.Unknown.{IsVerdictWithUnknown}
use Rattle.pst_judge.specs.Verdict.{first_broken}
use Rattle.pst_judge.specs.declared.by_order.CallOrder.{CallOrder}
use Rattle.pst_judge.specs.declared.by_order.CallOrder.TheVariants.{Any, Time}
use Rattle.pst_judge.specs.declared.judgement.Verdict.{Verdict}
use Rattle.pst_judge.specs.declared.judgement.Verdict.TheVariants.{Explained, Faulted, Unexplained, Broken}
use Rattle.pst_model.specs.declared.model.Source.{Source}
use Rattle.pst_reasons.specs.Reasons.{IsUnexplained}

-- the replies were judged, and no interleaving explains them
abbrev pub IsRefusing : Verdict → Type 0
IsRefusing (Explained word) = ⊥
IsRefusing (Faulted place) = Unit {0}
IsRefusing (Unexplained far) = Unit {0}
IsRefusing (Broken number) = ⊥

not_broken : (number : ℕ) (v : Verdict) → v ≡ Broken number → IsRefusing v → ⊥
not_broken number (Explained word) e j = j
not_broken number (Faulted place) e j = cc
not_broken number (Unexplained far) e j = cc
not_broken number (Broken other) e j = j

module _ (m : Source) (c : Case) (h : History) (v : Verdict) where
  timed : (o : Option (List (List CallTime))) → times_of c h ≡ o → IsVerdictTimed m c h o v → IsVerdictInOrder m (order_of o) c h v
  timed None e is = any_from_verdict m (post_asked m) c h v is
  timed (Some times) e is =
      let are = times_fit (branch_lengths c) times (fitting_fit (branch_lengths c) h.times times e) in
      same_verdict m (post_asked m) c h (IsMergeInTime times (branch_lengths c)) (IsRunInOrder (real_time times) c)
      (time_to_order (branch_lengths c) times are) (order_to_time (branch_lengths c) times are) v is

  -- the verdict by an order of the calls is that over the interleavings in this order
  verdict_in_order : (order : CallOrder) → IsVerdictOfKnown order m c h v → IsVerdictInOrder m (order_by order c h) c h v
  verdict_in_order Any is = any_from_verdict m (post_asked m) c h v is
  verdict_in_order Time is = timed (times_of c h) refl is

  refused : (order : List ℕ → ℕ → Bool) (w : Verdict) → IsJudgedAmong m (post_asked m) c h (IsRunInOrder order c) w → IsRefusing w → IsUnexplained m order c h
  refused order (Explained word) k j = absurd j
  refused order (Faulted place) k j = λ word is all. k.0 word (is, all)
  refused order (Unexplained far) k j = λ word is all. k.0 word (is, all)
  refused order (Broken number) k j = absurd j

  unexplained_of : (order : List ℕ → ℕ → Bool) (o : Option ℕ) → IsVerdictOfAmong m (post_asked m) c h (IsRunInOrder order c) o v → IsRefusing v → IsUnexplained m order c h
  unexplained_of order None k j = refused order v k j
  unexplained_of order (Some number) k j = absurd (not_broken number v k j)

  pub is_unexplained : (order : CallOrder) → has_unknown h ≡ false → IsVerdictBy order m c h v → IsRefusing v → IsUnexplained m (order_by order c h) c h
  is_unexplained order known is j =
      let of_known = subst (λ b. MatchBool b (IsVerdictWithUnknown m (calls_order_by order h) c h v) (IsVerdictOfKnown order m c h v)) known is in
      unexplained_of (order_by order c h) (first_broken 1 (recorded h)) (verdict_in_order order of_known) j
