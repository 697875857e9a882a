-- A drive breaks its run only by its calls.
use Rattle.std.proofs.Common.{◌≡◌, ◌||◌, ℕ, zero, suc, ◌+◌, ◌<◌, ◌≤◌, Bool, true, false, MatchBool, List, [], ◌∷◌, ◌++◌, length, map, Option, Some, None, slice_get, refl, sym, ap, ◌∙◌, subst, inl, inr, arith, append_assoc, append-nil, length-append}
use Rattle.std.specs.Prelude.{◌↔◌, not, if◌then◌else◌}
use Rattle.std.specs.List.{list_any}
use Rattle.std.proofs.Math.Nat.{eq-or-lt_of_le}
use Rattle.std.proofs.lemmas.List.{length-map, map-append}
use Rattle.std.proofs.lemmas.List.Folds.{list_any-append}
use Rattle.pst_case.specs.Matches.{replies_of}
use Rattle.pst_case.specs.Recorded.{recorded, result_of}
use Rattle.pst_case.specs.Shape.{joined, or_else, before_suffix, commands_of, result_types, part_fault, branches_fault, IsShaped, holds_var, holds_reference, is_known, is_forward, is_cross}
use Rattle.pst_case.specs.Unknown.{is_unknown, has_unknown}
use Rattle.pst_case.specs.declared.case.Case.{Case}
use Rattle.pst_case.specs.declared.case.Command.{Command}
use Rattle.pst_case.specs.declared.history.History.{History}
use Rattle.pst_case.specs.declared.history.Reply.{Reply}
use Rattle.pst_case.specs.declared.history.Reply.TheVariants.{Value as Answered, Misfit, Failed, NotRun, Unknown}
use Rattle.pst_case.specs.declared.shaping.CaseFaultKind.TheVariants.{UnknownOp, BadArgument, ForwardVar, CrossVar}
use Rattle.pst_driver.proofs.Arguments.{part_none, later_none}
use Rattle.pst_driver.proofs.Known.{faultless}
use Rattle.pst_driver.proofs.Variables.{or_first, or_second, is_missing, called_needs_none, Present, present_needs_none}
use Rattle.pst_driver.specs.Breaking.{breaks_by_itself, first_by_itself, DrivesBreakByTheirCalls}
use Rattle.pst_driver.specs.Driven.{IsReply, PartIsDriven, LateIsDriven, BranchesAreDriven, IsDriven, real_call, lacks_result, none_run, all_answers, is_failure, goes_on}
use Rattle.pst_judge.proofs.NoFault.{or_else_none}
use Rattle.pst_case.specs.declared.history.CallTime.{CallTime}
use Rattle.pst_judge.specs.ByOrder.{IsVerdictOfKnown, IsVerdictTimed, calls_order_by, times_of}
use Rattle.pst_judge.specs.InOrder.{IsVerdictOfAmong}
use Rattle.pst_judge.specs.InTime.{IsMergeInTime}
use Rattle.pst_judge.specs.Replay.{post_asked, branch_lengths}
use Rattle.pst_judge.specs.Unknown.{IsVerdictOfCallsOf, IsVerdictWithUnknown}
use Rattle.pst_judge.specs.UnknownCalls.{needs_missing, part_broken, branches_broken, broken_command}
use Rattle.pst_judge.specs.Verdict.{first_broken, IsVerdictOfAsking}
use Rattle.pst_judge.specs.declared.by_order.CallOrder.{CallOrder}
use Rattle.pst_judge.specs.declared.by_order.CallOrder.TheVariants.{Any, Time}
use Rattle.pst_judge.specs.declared.judgement.Verdict.{Verdict}
use Rattle.pst_judge.specs.declared.judgement.Verdict.TheVariants.{Broken}
use Rattle.pst_model.specs.Fitting.{args_fit}
use Rattle.pst_model.specs.Parts.{operation_of}
use Rattle.pst_model.specs.declared.model.Source.{Source}
use Rattle.pst_system.specs.Kept.{Answers, Fails}
use Rattle.pst_system.specs.declared.system.RealCall.{RealCall}
use Rattle.pst_value.specs.Subst.{known, flat}
use Rattle.pst_value.specs.declared.ty.Ty.{Ty}
use Rattle.pst_value.specs.declared.value.Value.{Value}

own_at : (n : ℕ) (b : Bool) (whole first later : Option ℕ) → whole ≡ or_else first later
    → (if b then Some n else whole) ≡ or_else (if b then Some n else first) later
own_at n true whole first later e = refl
own_at n false whole first later e = e

-- ---- commands that no call of a part breaks

module _ (m : Source) where
  own_none_run : (n : ℕ) (cs : List Command) → first_by_itself m n cs (none_run cs) ≡ None
  own_none_run n [] = refl
  own_none_run n (c ∷ cs) = own_none_run (n + 1) cs

  own_branches_not_run : (n : ℕ) (bs : List (List Command)) → first_by_itself m n (joined bs) (joined (map none_run bs)) ≡ None
  own_branches_not_run n [] = refl
  own_branches_not_run n ([] ∷ bs) = own_branches_not_run n bs
  own_branches_not_run n ((c ∷ cs) ∷ bs) = own_branches_not_run (n + 1) (cs ∷ bs)

  part_none_run : (results : List (Option Value)) (n : ℕ) (ended : Bool) (cs : List Command) → part_broken m results n ended cs (none_run cs) ≡ None
  part_none_run results n ended [] = refl
  part_none_run results n ended (c ∷ cs) = part_none_run results (n + 1) (ended || false) cs

  branches_none_run : (results : List (Option Value)) (n : ℕ) (bs : List (List Command)) → branches_broken m results n bs (map none_run bs) ≡ None
  branches_none_run results n [] = refl
  branches_none_run results n (b ∷ bs) =
      ap (λ o. or_else o (branches_broken m results (n + length b) bs (map none_run bs))) (part_none_run results n false b)
      ∙ branches_none_run results (n + length b) bs

  -- the first of two parts, else that of the second
  own-append : (n : ℕ) (xs ys : List Command) (rs ss : List Reply) → length rs ≡ length xs
      → first_by_itself m n (xs ++ ys) (rs ++ ss) ≡ or_else (first_by_itself m n xs rs) (first_by_itself m (n + length xs) ys ss)
  own-append n [] ys [] ss e = let z : n ≡ n + 0 = omega arith in ap (λ k. first_by_itself m k ys ss) z
  own-append n [] ys (r ∷ rs) ss e = absurd (cc)
  own-append n (c ∷ cs) ys [] ss e = absurd (cc)
  own-append n (c ∷ cs) ys (r ∷ rs) ss e =
      let k : n + 1 + length cs ≡ n + suc (length cs) = omega arith in
      let e' : length rs ≡ length cs = omega (arith, e) in
      own_at n (breaks_by_itself m c r) (first_by_itself m (n + 1) (cs ++ ys) (rs ++ ss)) (first_by_itself m (n + 1) cs rs) (first_by_itself m (n + suc (length cs)) ys ss)
      (subst (λ (j : ℕ). first_by_itself m (n + 1) (cs ++ ys) (rs ++ ss) ≡ or_else (first_by_itself m (n + 1) cs rs) (first_by_itself m j ys ss)) k (own-append (n + 1) cs ys rs ss e'))

-- ---- arguments of commands without a fault

facts_of_four : {A : Type 0} (a b c d e : Bool) (p q r s : A)
    → (if not a then Some p else if b then Some q else if c then Some r else if not d || e then Some s else None) ≡ None
    → (b ≡ false) × (c ≡ false) × (e ≡ false)
facts_of_four false b c d e p q r s h = absurd (cc)
facts_of_four true true c d e p q r s h = absurd (cc)
facts_of_four true false true d e p q r s h = absurd (cc)
facts_of_four true false false false e p q r s h = absurd (cc)
facts_of_four true false false true true p q r s h = absurd (cc)
facts_of_four true false false true false p q r s h = (refl, refl, refl)

module _ (m : Source) (vars : List Ty) (p b n : ℕ) (c : Command) (cs : List Command) (fault : part_fault m vars p b n (c ∷ cs) ≡ None) where
  facts : (list_any (holds_var (is_forward n)) c.args ≡ false) × (list_any (holds_var (is_cross p b)) c.args ≡ false) × (list_any holds_reference c.args ≡ false)
  facts =
      facts_of_four (is_known (operation_of m.items c.op)) (list_any (holds_var (is_forward n)) c.args) (list_any (holds_var (is_cross p b)) c.args)
      (args_fit m vars vars c.op c.args) (list_any holds_reference c.args) UnknownOp ForwardVar CrossVar BadArgument (part_none m vars p b n c cs fault).0

  needs_nothing : (results : List (Option Value)) → Present p b n results → needs_missing 1 results c.args ≡ false
  needs_nothing results present = present_needs_none p b n results present c.args facts.0 facts.1 facts.2

-- ---- known results

slice_get-seam : {X : Type 0} (xs : List X) (y : X) (ys : List X) → slice_get (xs ++ y ∷ ys) (length xs) ≡ Some y
slice_get-seam [] y ys = refl
slice_get-seam (x ∷ xs) y ys = slice_get-seam xs y ys

known-seam : (xs : List (Option Value)) (y : Option Value) (ys : List (Option Value)) (n : ℕ) → length xs + 1 ≡ n → known (xs ++ y ∷ ys) n ≡ y
known-seam xs y ys zero e = absurd (omega arith)
known-seam xs y ys (suc n) e = let k : n ≡ length xs = omega arith in rw k (ap flat (slice_get-seam xs y ys))

-- one more command has its result
present_more : (p b n : ℕ) (pre post : List (Option Value)) (v : Value) → length pre + 1 ≡ n
    → Present p b n (pre ++ Some v ∷ post) → Present p b (n + 1) (pre ++ Some v ∷ post)
present_more p b n pre post v e present = record {
  there = λ k some lt far.
      let at : k ≤ n = omega arith in
      elim (eq-or-lt_of_le at) [
        | inr h ↦ present.there k some h far
        | inl h ↦ ap is_missing (known-seam pre (Some v) post k (omega arith))
      ];
}

-- the results of replies that are values
answered_at : (rs : List Reply) (post : List (Option Value)) → all_answers rs ≡ true → (i : ℕ) → i < length rs
    → is_missing (flat (slice_get (map result_of rs ++ post) i)) ≡ false
answered_at [] post all i lt = absurd (omega arith)
answered_at (Answered v ∷ rs) post all zero lt = refl
answered_at (Answered v ∷ rs) post all (suc i) lt = answered_at rs post all i (omega arith)
answered_at (Misfit ∷ rs) post all i lt = absurd (cc)
answered_at (Failed ∷ rs) post all i lt = absurd (cc)
answered_at (NotRun ∷ rs) post all i lt = absurd (cc)
answered_at (Unknown ∷ rs) post all i lt = absurd (cc)

answered : (rs : List Reply) (post : List (Option Value)) → all_answers rs ≡ true → (k : ℕ) → 0 < k → k ≤ length rs
    → is_missing (known (map result_of rs ++ post) k) ≡ false
answered rs post all zero some lt = absurd (omega arith)
answered rs post all (suc k) some lt = answered_at rs post all k (omega arith)

-- ---- driven parts

module _ (m : Source) (A : Answers) (F : Fails) where
  driven_length : (results : List (Option Value)) (cs : List Command) (rs : List Reply) → PartIsDriven m A F results cs rs → length rs ≡ length cs
  driven_length results [] rs h = ap length h
  driven_length results (c ∷ cs) [] h = absurd h
  driven_length results (c ∷ cs) (Answered v ∷ rs) h = ap suc (driven_length results cs rs h.1)
  driven_length results (c ∷ cs) (Misfit ∷ rs) h = ap suc (ap length h.1 ∙ length-map cs (λ c. NotRun))
  driven_length results (c ∷ cs) (Failed ∷ rs) h = ap suc (ap length h.1 ∙ length-map cs (λ c. NotRun))
  driven_length results (c ∷ cs) (NotRun ∷ rs) h = absurd h.0.reply
  driven_length results (c ∷ cs) (Unknown ∷ rs) h = ap suc (ap length h.1 ∙ length-map cs (λ c. NotRun))

  branches_length : (results : List (Option Value)) (bs : List (List Command)) (hs : List (List Reply)) → BranchesAreDriven m A F results bs hs
      → length (joined hs) ≡ length (joined bs)
  branches_length results [] hs h = ap (λ x. length (joined x)) h
  branches_length results (b ∷ bs) [] h = absurd h
  branches_length results (b ∷ bs) (r ∷ rs) h =
      let n = driven_length results b r h.0 in
      let k = branches_length results bs rs h.1 in
      omega (arith, n, k, length-append r (joined rs), length-append b (joined bs))

  none_length : (bs : List (List Command)) → length (joined (map none_run bs)) ≡ length (joined bs)
  none_length [] = refl
  none_length (b ∷ bs) = omega (arith, none_length bs, length-append (none_run b) (joined (map none_run bs)), length-append b (joined bs), length-map b (λ c. NotRun))

  -- after a call of unknown outcome nothing is run
  at_unknown : (results : List (Option Value)) (n : ℕ) (c : Command) (cs : List Command) (rs : List Reply) → needs_missing 1 results c.args ≡ false
      → rs ≡ none_run cs → part_broken m results n false (c ∷ cs) (Unknown ∷ rs) ≡ first_by_itself m n (c ∷ cs) (Unknown ∷ rs)
  at_unknown results n c cs rs none e =
      let broken : part_broken m results (n + 1) true cs rs ≡ None = ap (part_broken m results (n + 1) true cs) e ∙ part_none_run m results (n + 1) true cs in
      let own : first_by_itself m (n + 1) cs rs ≡ None = ap (first_by_itself m (n + 1) cs) e ∙ own_none_run m (n + 1) cs in
      rw (none, broken, own) refl

  at_answer : (results : List (Option Value)) (n : ℕ) (c : Command) (cs : List Command) (v : Value) (rs : List Reply) → needs_missing 1 results c.args ≡ false
      → part_broken m results (n + 1) false cs rs ≡ first_by_itself m (n + 1) cs rs
      → part_broken m results n false (c ∷ cs) (Answered v ∷ rs) ≡ first_by_itself m n (c ∷ cs) (Answered v ∷ rs)
  at_answer results n c cs v rs none following = rw none following

  -- a command of a suffix before which some outcome is unknown, whose call may lack a result
  module _ (results : List (Option Value)) (n : ℕ) (c : Command) (cs : List Command) where
    abbrev Next : Reply → List Reply → Type 0
    Next r rs = MatchBool (goes_on r) (LateIsDriven m A F results cs rs) (rs ≡ none_run cs)

    abbrev Same : Reply → List Reply → Type 0
    Same r rs = part_broken m results n false (c ∷ cs) (r ∷ rs) ≡ first_by_itself m n (c ∷ cs) (r ∷ rs)

    abbrev Then : List Reply → Type 0
    Then rs = LateIsDriven m A F results cs rs → part_broken m results (n + 1) false cs rs ≡ first_by_itself m (n + 1) cs rs

    late_called : (r : Reply) (rs : List Reply) (call : RealCall) → needs_missing 1 results c.args ≡ false → Then rs → IsReply m A F c call r → Next r rs → Same r rs
    late_called (Answered v) rs call none following is next = at_answer results n c cs v rs none (following next)
    late_called Misfit rs call none following is next = refl
    late_called Failed rs call none following is next = refl
    late_called NotRun rs call none following is next = absurd is
    late_called Unknown rs call none following is next = at_unknown results n c cs rs none next

    late_skipped : (r : Reply) (rs : List Reply) → Then rs → r ≡ NotRun → Next r rs → Same r rs
    late_skipped NotRun rs following is next = following next
    late_skipped (Answered v) rs following is next = absurd (cc)
    late_skipped Misfit rs following is next = absurd (cc)
    late_skipped Failed rs following is next = absurd (cc)
    late_skipped Unknown rs following is next = absurd (cc)

  late_at : (results : List (Option Value)) (n : ℕ) (c : Command) (cs : List Command) (r : Reply) (rs : List Reply) (call : RealCall) (lacks : Bool)
      → (lacks ≡ false → needs_missing 1 results c.args ≡ false) → Then results n c cs rs
      → MatchBool lacks (r ≡ NotRun) (IsReply m A F c call r) → Next results n c cs r rs → Same results n c cs r rs
  late_at results n c cs r rs call true none following is next = late_skipped results n c cs r rs following is next
  late_at results n c cs r rs call false none following is next = late_called results n c cs r rs call (none refl) following is next

  module _ (vars : List Ty) where
    part_own : (p b n : ℕ) (results pre post : List (Option Value)) (cs : List Command) (rs : List Reply)
        → results ≡ pre ++ (map result_of rs ++ post) → length pre + 1 ≡ n → Present p b n results
        → part_fault m vars p b n cs ≡ None → PartIsDriven m A F results cs rs
        → part_broken m results n false cs rs ≡ first_by_itself m n cs rs
    part_own p b n results pre post [] rs is e present fault h = refl
    part_own p b n results pre post (c ∷ cs) [] is e present fault h = absurd h
    part_own p b n results pre post (c ∷ cs) (Answered v ∷ rs) is e present fault h =
        let more : Present p b (n + 1) results = rw is (present_more p b n pre (map result_of rs ++ post) v e (rw is at present)) in
        let is' : results ≡ (pre ++ Some v ∷ []) ++ (map result_of rs ++ post) = is ∙ sym (append_assoc pre (Some v ∷ []) (map result_of rs ++ post)) in
        at_answer results n c cs v rs (needs_nothing m vars p b n c cs fault results present)
        (part_own p b (n + 1) results (pre ++ Some v ∷ []) post cs rs is' (omega (arith, e, length-append pre (Some v ∷ []))) more (later_none m vars p b n c cs fault) h.1)
    part_own p b n results pre post (c ∷ cs) (Misfit ∷ rs) is e present fault h = refl
    part_own p b n results pre post (c ∷ cs) (Failed ∷ rs) is e present fault h = refl
    part_own p b n results pre post (c ∷ cs) (NotRun ∷ rs) is e present fault h = absurd h.0.reply
    part_own p b n results pre post (c ∷ cs) (Unknown ∷ rs) is e present fault h =
        at_unknown results n c cs rs (needs_nothing m vars p b n c cs fault results present) h.1

    branches_own : (p b : ℕ) (results : List (Option Value)) (pre : List (Option Value)) (post : List (Option Value)) (bs : List (List Command)) (hs : List (List Reply))
        → results ≡ pre ++ (map result_of (joined hs) ++ post) → length pre ≡ b
        → ((k : ℕ) → 0 < k → k ≤ p → is_missing (known results k) ≡ false)
        → branches_fault m vars p b bs ≡ None → BranchesAreDriven m A F results bs hs
        → branches_broken m results (b + 1) bs hs ≡ first_by_itself m (b + 1) (joined bs) (joined hs)
    branches_own p b results pre post [] hs is e there fault h = refl
    branches_own p b results pre post (c ∷ cs) [] is e there fault h = absurd h
    branches_own p b results pre post (c ∷ cs) (h ∷ hs) is e there fault driven =
        let clean : (part_fault m vars p b (b + 1) c ≡ None) × (branches_fault m vars p (b + length c) cs ≡ None) = or_else_none _ _ fault in
        let len : length h ≡ length c = driven_length results c h driven.0 in
        let split : map result_of (h ++ joined hs) ++ post ≡ map result_of h ++ (map result_of (joined hs) ++ post) =
        ap (λ xs. xs ++ post) (map-append result_of h (joined hs)) ∙ append_assoc (map result_of h) (map result_of (joined hs)) post in
        let first : results ≡ pre ++ (map result_of h ++ (map result_of (joined hs) ++ post)) = is ∙ ap (λ xs. pre ++ xs) split in
        let following : results ≡ (pre ++ map result_of h) ++ (map result_of (joined hs) ++ post) =
        first ∙ sym (append_assoc pre (map result_of h) (map result_of (joined hs) ++ post)) in
        let present : Present p b (b + 1) results =
        record { there = λ k some lt far. there k some (far (omega (arith, lt))) } in
        let part : part_broken m results (b + 1) false c h ≡ first_by_itself m (b + 1) c h =
        part_own p b (b + 1) results pre (map result_of (joined hs) ++ post) c h first (omega (arith, e)) present clean.0 driven.0 in
        let rest : branches_broken m results (b + length c + 1) cs hs ≡ first_by_itself m (b + length c + 1) (joined cs) (joined hs) =
        branches_own p (b + length c) results (pre ++ map result_of h) post cs hs following
        (omega (arith, e, len, length-append pre (map result_of h), length-map h result_of)) there clean.1 driven.1 in
        let k : b + length c + 1 ≡ b + 1 + length c = omega arith in
        let later : branches_broken m results (b + 1 + length c) cs hs ≡ first_by_itself m (b + 1 + length c) (joined cs) (joined hs) =
        subst (λ (j : ℕ). branches_broken m results j cs hs ≡ first_by_itself m j (joined cs) (joined hs)) k rest in
        ap (λ o. or_else o (branches_broken m results (b + 1 + length c) cs hs)) part
        ∙ ap (or_else (first_by_itself m (b + 1) c h)) later
        ∙ sym (own-append m (b + 1) c (joined cs) h (joined hs) len)

    -- a suffix before which some outcome is unknown
    late_own : (p n : ℕ) (results : List (Option Value)) (cs : List Command) (rs : List Reply)
        → part_fault m vars p 0 n cs ≡ None → LateIsDriven m A F results cs rs
        → part_broken m results n false cs rs ≡ first_by_itself m n cs rs
    late_own p n results [] rs fault h = refl
    late_own p n results (c ∷ cs) [] fault h = absurd h
    late_own p n results (c ∷ cs) (r ∷ rs) fault h =
        late_at results n c cs r rs (real_call h.0.operation results c) (lacks_result (real_call h.0.operation results c))
        (λ e. called_needs_none results c.args e (facts m vars p 0 n c cs fault).2)
        (λ late. late_own p (n + 1) results cs rs (later_none m vars p 0 n c cs fault) late) h.0.reply h.1

  -- ---- histories without calls of unknown outcome

  first-append : (n : ℕ) (xs ys : List (Option Value)) → first_broken n (xs ++ ys) ≡ or_else (first_broken n xs) (first_broken (n + length xs) ys)
  first-append n [] ys = let z : n ≡ n + 0 = omega arith in ap (λ k. first_broken k ys) z
  first-append n (Some v ∷ xs) ys =
      let k : n + 1 + length xs ≡ n + suc (length xs) = omega arith in
      subst (λ (j : ℕ). first_broken (n + 1) (xs ++ ys) ≡ or_else (first_broken (n + 1) xs) (first_broken j ys)) k (first-append (n + 1) xs ys)
  first-append n (None ∷ xs) ys = refl

  part_first : (results : List (Option Value)) (n : ℕ) (cs : List Command) (rs : List Reply) → list_any is_unknown rs ≡ false → PartIsDriven m A F results cs rs
      → first_broken n (map result_of rs) ≡ first_by_itself m n cs rs
  part_first results n [] rs known h = ap (λ xs. first_broken n (map result_of xs)) h
  part_first results n (c ∷ cs) [] known h = absurd h
  part_first results n (c ∷ cs) (Answered v ∷ rs) known h = part_first results (n + 1) cs rs known h.1
  part_first results n (c ∷ cs) (Misfit ∷ rs) known h = refl
  part_first results n (c ∷ cs) (Failed ∷ rs) known h = refl
  part_first results n (c ∷ cs) (NotRun ∷ rs) known h = absurd h.0.reply
  part_first results n (c ∷ cs) (Unknown ∷ rs) known h = absurd (cc)

  part_clean : (n : ℕ) (rs : List Reply) → first_broken n (map result_of rs) ≡ None → all_answers rs ≡ true
  part_clean n [] e = refl
  part_clean n (Answered v ∷ rs) e = part_clean (n + 1) rs e
  part_clean n (Misfit ∷ rs) e = absurd (cc)
  part_clean n (Failed ∷ rs) e = absurd (cc)
  part_clean n (NotRun ∷ rs) e = absurd (cc)
  part_clean n (Unknown ∷ rs) e = absurd (cc)

  branches_first : (results : List (Option Value)) (n : ℕ) (bs : List (List Command)) (hs : List (List Reply)) → list_any is_unknown (joined hs) ≡ false
      → BranchesAreDriven m A F results bs hs → first_broken n (map result_of (joined hs)) ≡ first_by_itself m n (joined bs) (joined hs)
  branches_first results n [] hs known h = ap (λ xs. first_broken n (map result_of (joined xs))) h
  branches_first results n (c ∷ cs) [] known h = absurd h
  branches_first results n (c ∷ cs) (h ∷ hs) known driven =
      let both : (list_any is_unknown h || list_any is_unknown (joined hs)) ≡ false = sym (list_any-append is_unknown h (joined hs)) ∙ known in
      let len : length h ≡ length c = driven_length results c h driven.0 in
      let part : first_broken n (map result_of h) ≡ first_by_itself m n c h = part_first results n c h (or_first _ _ both) driven.0 in
      let k : n + length (map result_of h) ≡ n + length c = omega (arith, len, length-map h result_of) in
      let rest : first_broken (n + length c) (map result_of (joined hs)) ≡ first_by_itself m (n + length c) (joined cs) (joined hs) =
      branches_first results (n + length c) cs hs (or_second (list_any is_unknown h) _ both) driven.1 in
      ap (first_broken n) (map-append result_of h (joined hs))
      ∙ first-append n (map result_of h) (map result_of (joined hs))
      ∙ ap (λ o. or_else o (first_broken (n + length (map result_of h)) (map result_of (joined hs)))) part
      ∙ ap (λ (j : ℕ). or_else (first_by_itself m n c h) (first_broken j (map result_of (joined hs)))) k
      ∙ ap (or_else (first_by_itself m n c h)) rest
      ∙ sym (own-append m n c (joined cs) h (joined hs) len)

-- the same first of two where the second counts only without the first
or_else_same : {X : Type 0} (a a' b b' : Option X) → a ≡ a' → (a ≡ None → b ≡ b') → or_else a b ≡ or_else a' b'
or_else_same None a' b b' e h = ap (λ o. or_else o b) e ∙ ap (λ o. or_else o b) (sym e) ∙ h refl ∙ ap (λ o. or_else o b') e
or_else_same (Some x) a' b b' e h = ap (λ o. or_else o b') e

or_else_assoc : {X : Type 0} (a b c : Option X) → or_else (or_else a b) c ≡ or_else a (or_else b c)
or_else_assoc None b c = refl
or_else_assoc (Some x) b c = refl

-- ---- the whole

module _ (m : Source) (A : Answers) (F : Fails) (c : Case) (h : History) (shaped : IsShaped m c) (driven : IsDriven m A F c h) where
  abbrev p : ℕ
  p = length c.prefix

  abbrev earlier : List Reply
  earlier = h.prefix ++ joined h.branches

  abbrev own_prefix : Option ℕ
  own_prefix = first_by_itself m 1 c.prefix h.prefix

  abbrev own_branches : Option ℕ
  own_branches = first_by_itself m (1 + p) (joined c.branches) (joined h.branches)

  abbrev own_suffix : Option ℕ
  own_suffix = first_by_itself m (1 + before_suffix c) c.suffix h.suffix

  prefix_count : length h.prefix ≡ p
  prefix_count = driven_length m A F (recorded h) c.prefix h.prefix driven.prefix

  branches_count_if : (all : Bool) → MatchBool all (BranchesAreDriven m A F (recorded h) c.branches h.branches) (h.branches ≡ map none_run c.branches)
      → length (joined h.branches) ≡ length (joined c.branches)
  branches_count_if true runs = branches_length m A F (recorded h) c.branches h.branches runs
  branches_count_if false none = ap (λ bs. length (joined bs)) none ∙ none_length m A F c.branches

  branches_count : length (joined h.branches) ≡ length (joined c.branches)
  branches_count = branches_count_if (all_answers h.prefix) driven.branches

  earlier_count : length earlier ≡ before_suffix c
  earlier_count = omega (arith, prefix_count, branches_count, length-append h.prefix (joined h.branches))

  -- the first of the whole is the first of its parts
  own_parts : first_by_itself m 1 (commands_of c) (replies_of h) ≡ or_else own_prefix (or_else own_branches own_suffix)
  own_parts =
      let count : length earlier ≡ length (c.prefix ++ joined c.branches) = earlier_count ∙ sym (length-append c.prefix (joined c.branches)) in
      let k : 1 + length (c.prefix ++ joined c.branches) ≡ 1 + before_suffix c = omega (arith, length-append c.prefix (joined c.branches)) in
      own-append m 1 (c.prefix ++ joined c.branches) c.suffix earlier h.suffix count
      ∙ ap (λ o. or_else o (first_by_itself m (1 + length (c.prefix ++ joined c.branches)) c.suffix h.suffix)) (own-append m 1 c.prefix (joined c.branches) h.prefix (joined h.branches) prefix_count)
      ∙ ap (λ (j : ℕ). or_else (or_else own_prefix own_branches) (first_by_itself m j c.suffix h.suffix)) k
      ∙ or_else_assoc own_prefix own_branches own_suffix

  -- ---- the results by parts

  abbrev after_prefix : List (Option Value)
  after_prefix = map result_of (joined h.branches) ++ map result_of h.suffix

  by_earlier : recorded h ≡ map result_of earlier ++ map result_of h.suffix
  by_earlier = map-append result_of earlier h.suffix

  by_prefix : recorded h ≡ map result_of h.prefix ++ after_prefix
  by_prefix =
      by_earlier ∙ ap (λ xs. xs ++ map result_of h.suffix) (map-append result_of h.prefix (joined h.branches))
      ∙ append_assoc (map result_of h.prefix) (map result_of (joined h.branches)) (map result_of h.suffix)

  by_suffix : recorded h ≡ map result_of earlier ++ (map result_of h.suffix ++ [])
  by_suffix = by_earlier ∙ ap (λ xs. map result_of earlier ++ xs) (sym (append-nil (map result_of h.suffix)))

  -- ---- with calls of unknown outcome

  prefix_breaks : part_broken m (recorded h) 1 false c.prefix h.prefix ≡ own_prefix
  prefix_breaks =
      part_own m A F (result_types m c) p 0 1 (recorded h) [] after_prefix c.prefix h.prefix by_prefix refl
      (record { there = λ k some lt far. absurd (omega arith) }) (faultless m c shaped).0 driven.prefix

  in_prefix : all_answers h.prefix ≡ true → (k : ℕ) → 0 < k → k ≤ p → is_missing (known (recorded h) k) ≡ false
  in_prefix e k some le =
      ap (λ xs. is_missing (known xs k)) by_prefix ∙ answered h.prefix after_prefix e k some (omega (arith, prefix_count))

  branches_break : (all : Bool) → all_answers h.prefix ≡ all
      → MatchBool all (BranchesAreDriven m A F (recorded h) c.branches h.branches) (h.branches ≡ map none_run c.branches)
      → branches_broken m (recorded h) (1 + p) c.branches h.branches ≡ own_branches
  branches_break true e runs =
      let count : length (map result_of h.prefix) ≡ p = length-map h.prefix result_of ∙ prefix_count in
      let at : branches_broken m (recorded h) (p + 1) c.branches h.branches ≡ first_by_itself m (p + 1) (joined c.branches) (joined h.branches) =
      branches_own m A F (result_types m c) p p (recorded h) (map result_of h.prefix) (map result_of h.suffix) c.branches h.branches by_prefix count
      (in_prefix e) (faultless m c shaped).1.0 runs in
      let k : p + 1 ≡ 1 + p = omega arith in
      subst (λ (j : ℕ). branches_broken m (recorded h) j c.branches h.branches ≡ first_by_itself m j (joined c.branches) (joined h.branches)) k at
  branches_break false e none =
      ap (branches_broken m (recorded h) (1 + p) c.branches) none
      ∙ branches_none_run m (recorded h) (1 + p) c.branches
      ∙ sym (ap (λ bs. first_by_itself m (1 + p) (joined c.branches) (joined bs)) none ∙ own_branches_not_run m (1 + p) c.branches)

  abbrev SuffixBreaks : Type 0
  SuffixBreaks = part_broken m (recorded h) (1 + before_suffix c) false c.suffix h.suffix ≡ own_suffix

  at_number : part_broken m (recorded h) (before_suffix c + 1) false c.suffix h.suffix ≡ first_by_itself m (before_suffix c + 1) c.suffix h.suffix
      → SuffixBreaks
  at_number at =
      let k : before_suffix c + 1 ≡ 1 + before_suffix c = omega arith in
      subst (λ (j : ℕ). part_broken m (recorded h) j false c.suffix h.suffix ≡ first_by_itself m j c.suffix h.suffix) k at

  in_earlier : all_answers earlier ≡ true → (k : ℕ) → 0 < k → k < before_suffix c + 1 → is_missing (known (recorded h) k) ≡ false
  in_earlier e k some lt =
      ap (λ xs. is_missing (known xs k)) by_earlier ∙ answered earlier (map result_of h.suffix) e k some (omega (arith, earlier_count))

  suffix_breaks : (all failed : Bool) → all_answers earlier ≡ all
      → MatchBool all (PartIsDriven m A F (recorded h) c.suffix h.suffix)
      (MatchBool failed (h.suffix ≡ none_run c.suffix) (LateIsDriven m A F (recorded h) c.suffix h.suffix)) → SuffixBreaks
  suffix_breaks true failed e runs =
      at_number (part_own m A F (result_types m c) p 0 (before_suffix c + 1) (recorded h) (map result_of earlier) [] c.suffix h.suffix by_suffix
      (omega (arith, earlier_count, length-map earlier result_of)) (record { there = λ k some lt far. in_earlier e k some lt })
      (faultless m c shaped).1.1 runs)
  suffix_breaks false true e none =
      ap (part_broken m (recorded h) (1 + before_suffix c) false c.suffix) none
      ∙ part_none_run m (recorded h) (1 + before_suffix c) false c.suffix
      ∙ sym (ap (first_by_itself m (1 + before_suffix c) c.suffix) none ∙ own_none_run m (1 + before_suffix c) c.suffix)
  suffix_breaks false false e late =
      at_number (late_own m A F (result_types m c) p (before_suffix c + 1) (recorded h) c.suffix h.suffix (faultless m c shaped).1.1 late)

  breaks_with_unknown : broken_command m c h ≡ first_by_itself m 1 (commands_of c) (replies_of h)
  breaks_with_unknown =
      let one = prefix_breaks in
      let two = branches_break (all_answers h.prefix) refl driven.branches in
      let three = suffix_breaks (all_answers earlier) (list_any is_failure earlier) refl driven.suffix in
      ap (λ o. or_else o (or_else (branches_broken m (recorded h) (1 + p) c.branches h.branches) (part_broken m (recorded h) (1 + before_suffix c) false c.suffix h.suffix))) one
      ∙ ap (λ o. or_else own_prefix (or_else o (part_broken m (recorded h) (1 + before_suffix c) false c.suffix h.suffix))) two
      ∙ ap (λ o. or_else own_prefix (or_else own_branches o)) three
      ∙ sym own_parts

  -- ---- without them

  module _ (none : has_unknown h ≡ false) where
    both : (list_any is_unknown earlier || list_any is_unknown h.suffix) ≡ false
    both = sym (list_any-append is_unknown earlier h.suffix) ∙ none

    before : (list_any is_unknown h.prefix || list_any is_unknown (joined h.branches)) ≡ false
    before = sym (list_any-append is_unknown h.prefix (joined h.branches)) ∙ or_first (list_any is_unknown earlier) _ both

    abbrev first_prefix : Option ℕ
    first_prefix = first_broken 1 (map result_of h.prefix)

    abbrev first_branches : Option ℕ
    first_branches = first_broken (1 + p) (map result_of (joined h.branches))

    abbrev first_suffix : Option ℕ
    first_suffix = first_broken (1 + before_suffix c) (map result_of h.suffix)

    first_parts : first_broken 1 (recorded h) ≡ or_else first_prefix (or_else first_branches first_suffix)
    first_parts =
        let k : 1 + length (map result_of h.prefix) ≡ 1 + p = omega (arith, prefix_count, length-map h.prefix result_of) in
        let l : 1 + length (map result_of h.prefix) + length (map result_of (joined h.branches)) ≡ 1 + before_suffix c =
        omega (arith, prefix_count, branches_count, length-map h.prefix result_of, length-map (joined h.branches) result_of) in
        ap (first_broken 1) by_prefix
        ∙ first-append m A F 1 (map result_of h.prefix) after_prefix
        ∙ ap (or_else first_prefix) (first-append m A F (1 + length (map result_of h.prefix)) (map result_of (joined h.branches)) (map result_of h.suffix))
        ∙ ap (λ (j : ℕ). or_else first_prefix (or_else (first_broken j (map result_of (joined h.branches)))
        (first_broken (1 + length (map result_of h.prefix) + length (map result_of (joined h.branches))) (map result_of h.suffix)))) k
        ∙ ap (λ (j : ℕ). or_else first_prefix (or_else first_branches (first_broken j (map result_of h.suffix)))) l

    prefix_first : first_prefix ≡ own_prefix
    prefix_first = part_first m A F (recorded h) 1 c.prefix h.prefix (or_first (list_any is_unknown h.prefix) _ before) driven.prefix

    prefix_answered : first_prefix ≡ None → all_answers h.prefix ≡ true
    prefix_answered = part_clean m A F 1 h.prefix

    branches_first_is : (all : Bool) → all ≡ true
        → MatchBool all (BranchesAreDriven m A F (recorded h) c.branches h.branches) (h.branches ≡ map none_run c.branches)
        → first_branches ≡ own_branches
    branches_first_is true e runs =
        branches_first m A F (recorded h) (1 + p) c.branches h.branches (or_second (list_any is_unknown h.prefix) _ before) runs
    branches_first_is false e runs = absurd (cc)

    suffix_first_is : (all failed : Bool) → all ≡ true
        → MatchBool all (PartIsDriven m A F (recorded h) c.suffix h.suffix)
        (MatchBool failed (h.suffix ≡ none_run c.suffix) (LateIsDriven m A F (recorded h) c.suffix h.suffix))
        → first_suffix ≡ own_suffix
    suffix_first_is true failed e runs =
        part_first m A F (recorded h) (1 + before_suffix c) c.suffix h.suffix (or_second (list_any is_unknown earlier) _ both) runs
    suffix_first_is false failed e runs = absurd (cc)

    all_answered : (xs ys : List Reply) → all_answers xs ≡ true → all_answers ys ≡ true → all_answers (xs ++ ys) ≡ true
    all_answered [] ys e f = f
    all_answered (Answered v ∷ xs) ys e f = all_answered xs ys e f
    all_answered (Misfit ∷ xs) ys e f = absurd (cc)
    all_answered (Failed ∷ xs) ys e f = absurd (cc)
    all_answered (NotRun ∷ xs) ys e f = absurd (cc)
    all_answered (Unknown ∷ xs) ys e f = absurd (cc)

    later_same : first_prefix ≡ None → or_else first_branches first_suffix ≡ or_else own_branches own_suffix
    later_same e =
        let answers = prefix_answered e in
        or_else_same first_branches own_branches first_suffix own_suffix
        (branches_first_is (all_answers h.prefix) answers driven.branches)
        (λ f. suffix_first_is (all_answers earlier) (list_any is_failure earlier)
        (all_answered h.prefix (joined h.branches) answers (part_clean m A F (1 + p) (joined h.branches) f)) driven.suffix)

    breaks_without_unknown : first_broken 1 (recorded h) ≡ first_by_itself m 1 (commands_of c) (replies_of h)
    breaks_without_unknown =
        first_parts
        ∙ or_else_same first_prefix own_prefix (or_else first_branches first_suffix) (or_else own_branches own_suffix) prefix_first later_same
        ∙ sym own_parts

-- ---- verdicts

some_is : (k n : ℕ) → Some k ≡ Some n → k ≡ n
some_is k n e = cc

broken_is : (k n : ℕ) → Broken k ≡ Broken n → k ≡ n
broken_is k n e = cc

no_some : (n : ℕ) → None ≡ Some n → ⊥
no_some n e = absurd (cc)

-- a verdict that is broken where an option has a number, and only following
module _ (Of : Option ℕ → Verdict → Type 0) (some : (k : ℕ) (v : Verdict) → Of (Some k) v → v ≡ Broken k) (none : (n : ℕ) → Of None (Broken n) → ⊥) where
  broken_at : (o : Option ℕ) (v : Verdict) → Of o v → (n : ℕ) → (v ≡ Broken n) ↔ (o ≡ Some n)
  broken_at None v is n = (λ e. absurd (none n (subst (Of None) e is)), λ e. absurd (no_some n e))
  broken_at (Some k) v is n =
      let b : v ≡ Broken k = some k v is in
      (λ e. ap Some (broken_is k n (sym b ∙ e)), λ e. b ∙ ap Broken (some_is k n e))

module _ (m : Source) (c : Case) (h : History) where
  timed_at : (times : Option (List (List CallTime))) (v : Verdict) → IsVerdictTimed m c h times v → (n : ℕ)
      → (v ≡ Broken n) ↔ (first_broken 1 (recorded h) ≡ Some n)
  timed_at None v is n = broken_at (IsVerdictOfAsking m (post_asked m) c h) (λ k v e. e) (λ n e. e) (first_broken 1 (recorded h)) v is n
  timed_at (Some times) v is n =
      broken_at (IsVerdictOfAmong m (post_asked m) c h (IsMergeInTime times (branch_lengths c))) (λ k v e. e) (λ n e. e) (first_broken 1 (recorded h)) v is n

  known_at : (order : CallOrder) (v : Verdict) → IsVerdictOfKnown order m c h v → (n : ℕ)
      → (v ≡ Broken n) ↔ (first_broken 1 (recorded h) ≡ Some n)
  known_at Any v is n = timed_at None v is n
  known_at Time v is n = timed_at (times_of c h) v is n

  unknown_at : (order : CallOrder) (v : Verdict) → IsVerdictWithUnknown m (calls_order_by order h) c h v → (n : ℕ)
      → (v ≡ Broken n) ↔ (broken_command m c h ≡ Some n)
  unknown_at order v is n =
      broken_at (IsVerdictOfCallsOf m (post_asked m) (calls_order_by order h) c h) (λ k v e. e) (λ n e. e) (broken_command m c h) v is n

  verdict_at : (A : Answers) (F : Fails) → IsShaped m c → IsDriven m A F c h → (order : CallOrder) (v : Verdict) (n : ℕ) (b : Bool) → has_unknown h ≡ b
      → MatchBool b (IsVerdictWithUnknown m (calls_order_by order h) c h v) (IsVerdictOfKnown order m c h v)
      → (v ≡ Broken n) ↔ (first_by_itself m 1 (commands_of c) (replies_of h) ≡ Some n)
  verdict_at A F shaped driven order v n true e is =
      subst (λ o. (v ≡ Broken n) ↔ (o ≡ Some n)) (breaks_with_unknown m A F c h shaped driven) (unknown_at order v is n)
  verdict_at A F shaped driven order v n false e is =
      subst (λ o. (v ≡ Broken n) ↔ (o ≡ Some n)) (breaks_without_unknown m A F c h shaped driven e) (known_at order v is n)

pub by_their_calls : (A : Answers) (F : Fails) → DrivesBreakByTheirCalls A F
by_their_calls A F m c h shaped driven order v is n = verdict_at m c h A F shaped driven order v n (has_unknown h) refl is
