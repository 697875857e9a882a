-- The order in time keeps recorded precedences, and what keeps those that imply all others is in the order in time.
use Rattle.std.proofs.Common.{◌≡◌, ℕ, ◌+◌, ◌-◌, ◌≤◌, inl, inr, List, [], ◌∷◌, length, get_or, Bool, true, false, not, ◌&&◌, ◌==◌, Option, Some, None, refl, sym, ap, ◌∙◌, arith}
use Rattle.std.proofs.lemmas.Bool.{and_parts, cases_eq}
use Rattle.std.proofs.lemmas.Bool.Decides.{nat_tests}
use Rattle.std.proofs.lemmas.List.Sums.{AllPass-from_list_all, list_all-from_AllPass}
use Rattle.std.specs.List.{All}
use Rattle.std.specs.Prelude.{nat_lt, MatchOption}
use Rattle.pst_case.specs.declared.history.CallTime.{CallTime}
use Rattle.pst_grid.specs.Completions.{IsAt}
use Rattle.pst_grid.specs.Merges.{one_more}
use Rattle.pst_grid.specs.Orders.{IsInOrder, NeverBlocks}
use Rattle.pst_judge.proofs.Timely.{precedes-some, precedes-none, real-time-never-blocks}
use Rattle.pst_judge.specs.InTime.{command_at, AreTimesOf}
use Rattle.pst_judge.specs.RealTime.{is_over, next_of, one_precedes, precedes, may_come, real_time, IsTimely, AreTimely}
use Rattle.pst_precedence.proofs.Turns.{next_at, at_next, branch_at, earlier_at, earlier_over}
use Rattle.pst_precedence.specs.Listing.{IsBetween, ListsAll}
use Rattle.pst_precedence.specs.Precedences.{closes, is_done, is_next, keeping, IsRecorded}
use Rattle.pst_precedence.specs.declared.precedence.Precedence.{Precedence}

true_is_not_false : (a : Bool) → a ≡ true → a ≡ false → ⊥
true_is_not_false a h k = let q : true ≡ false = sym h ∙ k in cc

-- what closes a branch: its next call is the later one, and the earlier one is not done
pub closing : (p : Precedence) (done : List ℕ) (b : ℕ) → closes p done b ≡ true
    → (p.later.branch ≡ b) × (p.later.index ≡ get_or done b 0) × (get_or done p.earlier.branch 0 ≤ p.earlier.index)
closing p done b h =
    let q = and_parts (is_next done b p.later) (not (is_done done p.earlier)) h in
    let r = and_parts (p.later.branch == b) (p.later.index == get_or done b 0) q.0 in
    (let e = r.0 in grind (arith, nat_tests), let e = r.1 in grind (arith, nat_tests), let e = q.1 in grind (arith, nat_tests))

pub to_close : (p : Precedence) (done : List ℕ) (b : ℕ) → p.later.branch ≡ b → p.later.index ≡ get_or done b 0 → get_or done p.earlier.branch 0 ≤ p.earlier.index → closes p done b ≡ true
to_close p done b e f l =
    let x : (p.later.branch == b) ≡ true = grind (arith, nat_tests) in
    let y : (p.later.index == get_or done b 0) ≡ true = grind (arith, nat_tests) in
    let z : nat_lt p.earlier.index (get_or done p.earlier.branch 0) ≡ false = grind (arith, nat_tests) in
    ap (λ a. (a && (p.later.index == get_or done b 0)) && not (is_done done p.earlier)) x
    ∙ ap (λ a. (true && a) && not (is_done done p.earlier)) y
    ∙ ap (λ a. (true && true) && not a) z

-- a call is not over before it is invoked
not_over : (x : CallTime) → IsTimely x → precedes x x ≡ false
not_over x timely = by x.completed refl timely
  where
    by : (o : Option ℕ) → x.completed ≡ o → MatchOption o (Unit {0}) (λ t. x.invoked ≤ t) → is_over o x.invoked ≡ false
    by None e h = refl
    by (Some t) e h = grind (arith, nat_tests)

module _ (times : List (List CallTime)) (lengths : List ℕ) (are : AreTimesOf lengths times) where
  -- where a recorded precedence closes a branch, so does the order in time
  closed_in_time : (done : List ℕ) → IsAt lengths done → (b : ℕ) (p : Precedence) → IsRecorded times p → closes p done b ≡ true → real_time times done b ≡ false
  closed_in_time done at b p recorded h =
      let q = closing p done b h in
      let e = p.earlier.branch in
      let y = recorded.second in
      let hy : command_at times b (get_or done b 0) ≡ Some y = ap (λ c. command_at times c (get_or done b 0)) (sym q.0) ∙ ap (command_at times p.later.branch) (sym q.1) ∙ recorded.is_second in
      let z = earlier_at times e (get_or done e 0) p.earlier.index recorded.first q.2 recorded.is_first in
      let n : get_or done e 0 + (p.earlier.index - get_or done e 0) ≡ p.earlier.index = omega (arith, q.2) in
      let over : precedes z.0 y ≡ true = earlier_over times are.timely are.turns (p.earlier.index - get_or done e 0) e (get_or done e 0) z.0 recorded.first y.invoked z.1 (ap (command_at times e) n ∙ recorded.is_first) recorded.before in
      let one : one_precedes (next_of times done e) y ≡ true = ap (λ o. one_precedes o y) (at_next times lengths are.each done at e z.0 z.1) ∙ over in
      let some = precedes-some (next_of times done) (length times) e y (branch_at times e (get_or done e 0) z.0 z.1) one in
      ap (may_come (next_of times done) (length times)) (at_next times lengths are.each done at b y hy) ∙ ap not some

  -- a branch that is open in time is open by each list of recorded precedences
  pub open_in_time : (ps : List Precedence) → All (IsRecorded times) ps → (done : List ℕ) → IsAt lengths done → (b : ℕ) → real_time times done b ≡ true → keeping ps done b ≡ true
  open_in_time ps recorded done at b opened =
      list_all-from_AllPass (λ p. not (closes p done b)) ps (λ k d l. one (get_or ps k d) (recorded k d l) (closes (get_or ps k d) done b) refl)
    where
      one : (p : Precedence) → IsRecorded times p → (r : Bool) → closes p done b ≡ r → not (closes p done b) ≡ true
      one p is false e = ap not e
      one p is true e = absurd (true_is_not_false (real_time times done b) opened (closed_in_time done at b p is e))

  pub never_blocks : (ps : List Precedence) → All (IsRecorded times) ps → NeverBlocks (keeping ps) lengths
  never_blocks ps recorded done at b left =
      let o = real-time-never-blocks times lengths are.each are.timely done at b left in
      (o.0, (o.1.0, open_in_time ps recorded done at o.0 o.1.1))

module _ (times : List (List CallTime)) (timely : AreTimely times) (ps : List Precedence) (lists : ListsAll times ps) where
  -- a branch that is open by the precedences that imply all others is open in time
  kept_open : (done : List ℕ) (b : ℕ) → keeping ps done b ≡ true → real_time times done b ≡ true
  kept_open done b opened = by (next_of times done b) refl
    where
      -- none that is listed closes it
      none_closes : (p : Precedence) → IsBetween times p → closes p done b ≡ true → ⊥
      none_closes p between h =
          let i = lists.implied p between in
          let q = closing p done b h in
          let later : i.by.later.branch ≡ b = ap (λ x. x.branch) i.later ∙ q.0 in
          let index : i.by.later.index ≡ get_or done b 0 = ap (λ x. x.index) i.later ∙ q.1 in
          let same : get_or done i.by.earlier.branch 0 ≡ get_or done p.earlier.branch 0 = ap (λ x. get_or done x 0) i.branch in
          let c = to_close i.by done b later index (omega (arith, same, q.2, i.index)) in
          let pass = AllPass-from_list_all (λ p. not (closes p done b)) ps opened i.listed.0 i.by i.listed.1 in
          true_is_not_false (not (closes i.by done b)) (ap (λ x. not (closes x done b)) (sym i.listed.2) ∙ pass) (ap not c)

      one : (y : CallTime) → next_of times done b ≡ Some y → (c : ℕ) (o : Option CallTime) → next_of times done c ≡ o → (r : Bool) → one_precedes o y ≡ r → one_precedes o y ≡ false
      one y hy c o e false h = h
      one y hy c None e true h = refl
      one y hy c (Some x) e true h = absurd (elim (cases_eq c b) [
        | inl same ↦ (let q : Some x ≡ Some y = sym e ∙ ap (next_of times done) same ∙ hy in
            let r : x ≡ y = cc in
            true_is_not_false (precedes x y) h (ap (λ a. precedes a y) r ∙ not_over y (timely b (get_or done b 0) y (next_at times done b y hy))))
        | inr other ↦ (let p : Precedence = record { earlier = record { branch = c; index = get_or done c 0 }; later = record { branch = b; index = get_or done b 0 } } in
            let between : IsBetween times p = record {
              recorded = record { first = x; second = y; is_first = next_at times done c x e; is_second = next_at times done b y hy; before = h };
              apart = other;
            } in
            none_closes p between (to_close p done b refl refl (omega arith)))
      ])

      by : (o : Option CallTime) → next_of times done b ≡ o → may_come (next_of times done) (length times) o ≡ true
      by None e = refl
      by (Some y) e = ap not (precedes-none (next_of times done) (length times) y (λ c l. one y e c (next_of times done c) refl (one_precedes (next_of times done c) y) refl))

  pub kept_in_time : (done w : List ℕ) → IsInOrder (keeping ps) done w → IsInOrder (real_time times) done w
  kept_in_time done [] k = tt
  kept_in_time done (b ∷ w) k = (kept_open done b k.0, kept_in_time (one_more done b) w k.1)
