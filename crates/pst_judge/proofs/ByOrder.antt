-- Times that fit are the times of the commands, and the verdict by an order.
use Rattle.std.proofs.Common.{◌≡◌, ℕ, zero, suc, ◌≤◌, List, [], ◌∷◌, length, Bool, true, false, if◌then◌else◌, Option, Some, None, MatchOption, refl, sym, ap, subst, ◌∙◌}
use Rattle.std.proofs.lemmas.Bool.{and_parts, eqb-true, leb-true}
use Rattle.std.specs.Prelude.{slice_get, slice_index, IfSome, MatchBool}
use Rattle.pst_case.specs.Times.{fit, is_timely, is_no_later, is_over_by, is_over_by_first, are_in_turn}
use Rattle.pst_case.specs.Unknown.{has_unknown}
use Rattle.pst_case.specs.declared.case.Case.{Case}
use Rattle.pst_case.specs.declared.history.CallTime.{CallTime}
use Rattle.pst_case.specs.declared.history.History.{History}
use Rattle.pst_grid.specs.Orders.{any_order, IsOpen, NeverBlocks}
use Rattle.pst_grid.specs.Merges.{IsMerge}
use Rattle.pst_judge.proofs.InOrder.{any_to_verdict, same_verdict}
use Rattle.pst_judge.proofs.InTime.{order_to_time, time_to_order}
use Rattle.pst_judge.proofs.Timely.{real-time-never-blocks}
use Rattle.pst_judge.specs.ByOrder.{fitting, times_of, IsVerdictTimed, IsVerdictOfKnown, IsVerdictBy, order_of, order_by, calls_order_by}
use Rattle.pst_judge.specs.InOrder.{IsRunInOrder, IsVerdictInOrder}
use Rattle.pst_judge.specs.InTime.{command_at, AreInTurn, AreTimesOf, IsMergeInTime}
use Rattle.pst_judge.specs.RealTime.{call_in, count_of, AreLengths, IsTimely, AreTimely, real_time}
use Rattle.pst_judge.specs.Replay.{post_asked, branch_lengths}
use Rattle.pst_judge.specs.Unknown.{IsVerdictWithUnknown}
use Rattle.pst_judge.specs.declared.by_order.CallOrder.{CallOrder}
use Rattle.pst_judge.specs.declared.by_order.CallOrder.TheVariants.{Any, Time}
use Rattle.pst_judge.specs.declared.judgement.Verdict.{Verdict}
use Rattle.pst_model.specs.declared.model.Source.{Source}

-- the three parts of what fits
pub parts : (n : ℕ) (ns : List ℕ) (calls : List CallTime) (times : List (List CallTime)) → fit (n ∷ ns) (calls ∷ times) ≡ true
    → (length calls ≡ n) × (are_in_turn calls ≡ true) × (fit ns times ≡ true)
unfolding fit
parts n ns calls times h =
    let p = and_parts _ _ h in
    let q = and_parts _ _ p.0 in
    (eqb-true (length calls) n q.0, q.1, p.1)

pub none_left : (calls : List CallTime) (times : List (List CallTime)) → fit [] (calls ∷ times) ≡ true → ⊥
unfolding fit
none_left calls times h = cc

pub some_left : (n : ℕ) (ns : List ℕ) → fit (n ∷ ns) [] ≡ true → ⊥
unfolding fit
some_left n ns h = cc

timely_one : (call : CallTime) → is_timely call ≡ true → IsTimely call
timely_one call h = by call.completed h
  where
    by : (o : Option ℕ) → is_no_later call.invoked o ≡ true → MatchOption o (Unit {0}) (λ t. call.invoked ≤ t)
    by None k = tt
    by (Some t) k = leb-true call.invoked t k

-- the calls of one branch
timely_in : (calls : List CallTime) → are_in_turn calls ≡ true → (i : ℕ) (x : CallTime) → slice_get calls i ≡ Some x → IsTimely x
timely_in [] h i x e = absurd (cc)
timely_in (call ∷ others) h zero x e =
    let p = and_parts _ _ (and_parts _ _ h).0 in
    let q : call ≡ x = cc in subst IsTimely q (timely_one call p.0)
timely_in (call ∷ others) h (suc i) x e = timely_in others (and_parts _ _ h).1 i x e

over_in : (o : Option ℕ) (at : ℕ) → is_over_by o at ≡ true → (t : ℕ) × (o ≡ Some t) × (t ≤ at)
over_in None at h = absurd (cc)
over_in (Some t) at h = (t, refl, leb-true t at h)

turn_in : (calls : List CallTime) → are_in_turn calls ≡ true → (i : ℕ) (x y : CallTime) → slice_get calls i ≡ Some x → slice_get calls (suc i) ≡ Some y
    → (t : ℕ) × (x.completed ≡ Some t) × (t ≤ y.invoked)
turn_in [] h i x y e f = absurd (cc)
turn_in (call ∷ []) h zero x y e f = absurd (cc)
turn_in (call ∷ next ∷ others) h zero x y e f =
    let p = and_parts _ _ (and_parts _ _ h).0 in
    let q : call ≡ x = cc in
    let r : next ≡ y = cc in
    over_in x.completed y.invoked (ap (λ c. is_over_by c.completed y.invoked) (sym q) ∙ ap (λ n. is_over_by call.completed n.invoked) (sym r) ∙ p.1)
turn_in (call ∷ others) h (suc i) x y e f = turn_in others (and_parts _ _ h).1 i x y e f

-- those of all
lengths_of : (ns : List ℕ) (times : List (List CallTime)) → fit ns times ≡ true → AreLengths times ns
lengths_of [] [] h b = refl
lengths_of [] (calls ∷ times) h b = absurd (none_left calls times h)
lengths_of (n ∷ ns) [] h b = absurd (some_left n ns h)
lengths_of (n ∷ ns) (calls ∷ times) h zero = sym (parts n ns calls times h).0
lengths_of (n ∷ ns) (calls ∷ times) h (suc b) = lengths_of ns times (parts n ns calls times h).2 b

pub all_timely : (ns : List ℕ) (times : List (List CallTime)) → fit ns times ≡ true → AreTimely times
all_timely ns [] h b i x e = absurd (cc)
all_timely [] (calls ∷ times) h b i x e = absurd (none_left calls times h)
all_timely (n ∷ ns) (calls ∷ times) h zero i x e = timely_in calls (parts n ns calls times h).1 i x e
all_timely (n ∷ ns) (calls ∷ times) h (suc b) i x e = all_timely ns times (parts n ns calls times h).2 b i x e

all_turns : (ns : List ℕ) (times : List (List CallTime)) → fit ns times ≡ true → AreInTurn times
all_turns ns [] h b i x y e f = absurd (cc)
all_turns [] (calls ∷ times) h b i x y e f = absurd (none_left calls times h)
all_turns (n ∷ ns) (calls ∷ times) h zero i x y e f = turn_in calls (parts n ns calls times h).1 i x y e f
all_turns (n ∷ ns) (calls ∷ times) h (suc b) i x y e f = all_turns ns times (parts n ns calls times h).2 b i x y e f

pub times_fit : (ns : List ℕ) (times : List (List CallTime)) → fit ns times ≡ true → AreTimesOf ns times
times_fit ns times h = record { each = lengths_of ns times h; timely = all_timely ns times h; turns = all_turns ns times h }

-- times that are there fit
pub fitting_fit : (ns : List ℕ) (given : Option (List (List CallTime))) (times : List (List CallTime)) → fitting ns given ≡ Some times → fit ns times ≡ true
fitting_fit ns None times e = absurd (cc)
fitting_fit ns (Some all) times e = by (fit ns all) refl e
  where
    by : (b : Bool) → fit ns all ≡ b → (if b then Some all else None) ≡ Some times → fit ns times ≡ true
    by true f k = let q : all ≡ times = cc in subst (λ ts. fit ns ts ≡ true) q f
    by false f k = absurd (cc)

any_never_blocks : (lengths : List ℕ) → NeverBlocks any_order lengths
any_never_blocks lengths done at b left = (b, (left, refl))

pub never_blocks : (order : CallOrder) (c : Case) (h : History) → NeverBlocks (order_by order c h) (branch_lengths c)
never_blocks Any c h = any_never_blocks (branch_lengths c)
never_blocks Time c h = by (times_of c h) refl
  where
    by : (o : Option (List (List CallTime))) → times_of c h ≡ o → NeverBlocks (order_of o) (branch_lengths c)
    by None e = any_never_blocks (branch_lengths c)
    by (Some times) e =
        let are = times_fit (branch_lengths c) times (fitting_fit (branch_lengths c) h.times times e) in
        real-time-never-blocks times (branch_lengths c) are.each are.timely

module _ (m : Source) (c : Case) (h : History) (v : Verdict) where
  timed : (o : Option (List (List CallTime))) → times_of c h ≡ o → IsVerdictInOrder m (order_of o) c h v → IsVerdictTimed m c h o v
  timed None e is = any_to_verdict m (post_asked m) c h v is
  timed (Some times) e is =
      let are = times_fit (branch_lengths c) times (fitting_fit (branch_lengths c) h.times times e) in
      same_verdict m (post_asked m) c h (IsRunInOrder (real_time times) c) (IsMergeInTime times (branch_lengths c))
      (order_to_time (branch_lengths c) times are) (time_to_order (branch_lengths c) times are) v is

  pub verdict_by_order : (order : CallOrder) → IsVerdictInOrder m (order_by order c h) c h v → IsVerdictOfKnown order m c h v
  verdict_by_order Any is = any_to_verdict m (post_asked m) c h v is
  verdict_by_order Time is = timed (times_of c h) refl is

  abbrev ByOutcomes : CallOrder → Bool → Type 0
  ByOutcomes order b = MatchBool b (IsVerdictWithUnknown m (calls_order_by order h) c h v) (IsVerdictOfKnown order m c h v)

  -- without calls of unknown outcome, and with some
  pub verdict_of_known : (order : CallOrder) → has_unknown h ≡ false → IsVerdictInOrder m (order_by order c h) c h v → IsVerdictBy order m c h v
  verdict_of_known order known is = subst (ByOutcomes order) (sym known) (verdict_by_order order is)

  pub verdict_with_some : (order : CallOrder) → has_unknown h ≡ true → IsVerdictWithUnknown m (calls_order_by order h) c h v → IsVerdictBy order m c h v
  verdict_with_some order some is = subst (ByOutcomes order) (sym some) is
