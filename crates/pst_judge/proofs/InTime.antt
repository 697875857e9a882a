-- A merge is in the order of times just where no command is in it before one that precedes it.
use Rattle.std.proofs.Common.{◌≡◌, ℕ, zero, suc, ◌+◌, ◌<◌, ◌≤◌, ◌⊎◌, inl, inr, List, [], ◌∷◌, length, get_or, take, replicate, Bool, true, false, not, Option, Some, None, refl, sym, ap, subst, ◌∙◌, arith}
use Rattle.std.proofs.lemmas.Bool.{cases_eq}
use Rattle.std.proofs.lemmas.Bool.Decides.{nat_tests}
use Rattle.std.proofs.lemmas.List.{get_or-set_same, get_or-set_other}
use Rattle.std.proofs.lemmas.Option.{get_or_from_slice_get, slice_get-get_or, slice_get_cases, slice_get_within}
use Rattle.std.specs.Prelude.{◌==◌, slice_get, if◌then◌else◌, MatchOption}
use Rattle.pst_grid.specs.Completions.{IsAt, Completes}
use Rattle.pst_grid.specs.Merges.{times, one_more, none_done}
use Rattle.pst_grid.specs.Orders.{IsInOrder, IsMergeInOrder}
use Rattle.pst_judge.specs.RealTime.{is_over, precedes, call_in, next_of, one_precedes, may_come, real_time, count_of, AreLengths, IsTimely, AreTimely}
use Rattle.pst_case.specs.declared.history.CallTime.{CallTime}
use Rattle.pst_grid.proofs.Answering.{IsAt-none, merge}
use Rattle.pst_grid.proofs.Completing.{Completes-head, Completes-tail}
use Rattle.pst_grid.proofs.Placing.{IsAt-branch, IsAt-more}
use Rattle.pst_judge.proofs.Timely.{precedes-some, precedes-none}
use Rattle.pst_judge.specs.InTime.{command_at, call_at, call_after, AreInTurn, AreTimesOf, IsMergeInTime, RealTimeIsOrderInTime}

-- a letter more
times-same : (b c : ℕ) (w : List ℕ) → b ≡ c → times c (b ∷ w) ≡ suc (times c w)
times-same b c w e = let k : ◌≡◌ {A = ℕ} (if b == c then 1 else 0) 1 = grind (arith, nat_tests) in omega (arith, k)

times-other : (b c : ℕ) (w : List ℕ) → (b ≡ c → ⊥) → times c (b ∷ w) ≡ times c w
times-other b c w ne = let k : ◌≡◌ {A = ℕ} (if b == c then 1 else 0) 0 = grind (arith, nat_tests) in omega (arith, k)

-- a letter that a word has: the first place of it
first_place : (c : ℕ) (w : List ℕ) → 0 < times c w → (j : ℕ) × (slice_get w j ≡ Some c) × (times c (take j w) ≡ 0)
first_place c [] h = absurd (omega arith)
first_place c (a ∷ w) h = by (cases_eq a c) (λ k. first_place c w k)
  where
    by : (a ≡ c) ⊎ (a ≡ c → ⊥) → (0 < times c w → (j : ℕ) × (slice_get w j ≡ Some c) × (times c (take j w) ≡ 0))
        → (j : ℕ) × (slice_get (a ∷ w) j ≡ Some c) × (times c (take j (a ∷ w)) ≡ 0)
    by (inl e) again = (0, ap Some e, refl)
    by (inr ne) again =
        let p = again (omega (arith, h, times-other a c w ne)) in
        (suc p.0, p.1, omega (arith, times-other a c (take p.0 w) ne, p.2))

module _ (branches : List (List CallTime)) where
  -- the command at a place of a word that follows so many commands of each branch
  abbrev call_of : List ℕ → List ℕ → Option ℕ → Option CallTime
  call_of done before None = None
  call_of done before (Some b) = command_at branches b (get_or done b 0 + times b before)

  abbrev call_from : List ℕ → List ℕ → ℕ → Option CallTime
  call_from done w i = call_of done (take i w) (slice_get w i)

  -- no command is in the word before one that precedes it
  abbrev IsInTimeFrom : List ℕ → List ℕ → Type 0
  IsInTimeFrom done w = (i j : ℕ) (x y : CallTime) → i < j → call_from done w i ≡ Some x → call_from done w j ≡ Some y → precedes y x ≡ false

  -- the next command of a branch, by its index
  next-at : (done : List ℕ) (b : ℕ) (x : CallTime) → next_of branches done b ≡ Some x → command_at branches b (get_or done b 0) ≡ Some x
  next-at done b x h = by (slice_get branches b) (slice_get done b) refl refl
    where
      by : (o : Option (List CallTime)) (p : Option ℕ) → slice_get branches b ≡ o → slice_get done b ≡ p → command_at branches b (get_or done b 0) ≡ Some x
      by None p e f = let q : None ≡ Some x = sym (ap (λ o. call_in o (slice_get done b)) e) ∙ h in absurd (cc)
      by (Some v) None e f = let q : None ≡ Some x = sym (ap (λ o. call_in o (slice_get done b)) e ∙ ap (λ o. call_in (Some v) o) f) ∙ h in absurd (cc)
      by (Some v) (Some i) e f =
          let same : get_or done b 0 ≡ i = get_or_from_slice_get done b i 0 f in
          ap (λ k. call_in (slice_get branches b) (Some k)) same ∙ sym (ap (λ o. call_in (slice_get branches b) o) f) ∙ h

  at-next : (done : List ℕ) (b : ℕ) (x : CallTime) → b < length done → command_at branches b (get_or done b 0) ≡ Some x → next_of branches done b ≡ Some x
  at-next done b x l h = ap (λ o. call_in (slice_get branches b) o) (slice_get-get_or done b 0 l) ∙ h

  -- where a branch has a command it has those before it
  earlier-at : (b i k : ℕ) (y : CallTime) → i ≤ k → command_at branches b k ≡ Some y → (x : CallTime) × (command_at branches b i ≡ Some x)
  earlier-at b i k y l h = by (slice_get branches b) refl
    where
      by : (o : Option (List CallTime)) → slice_get branches b ≡ o → (x : CallTime) × (command_at branches b i ≡ Some x)
      by None e = let q : None ≡ Some y = sym (ap (λ o. call_in o (Some k)) e) ∙ h in absurd (cc)
      by (Some v) e =
          let q : slice_get v k ≡ Some y = sym (ap (λ o. call_in o (Some k)) e) ∙ h in
          let w = slice_get_within v k y q in
          elim ((slice_get_cases v i).1) [
            | inl p ↦ (p.0, ap (λ o. call_in o (Some i)) e ∙ p.2)
            | inr p ↦ absurd (omega (arith, p.0, w, l))
          ]

  -- it is there for each command that the branch has
  within-at : (lengths : List ℕ) → AreLengths branches lengths → (b i : ℕ) (x : CallTime) → command_at branches b i ≡ Some x → i < get_or lengths b 0
  within-at lengths are b i x h = by (slice_get branches b) refl
    where
      by : (o : Option (List CallTime)) → slice_get branches b ≡ o → i < get_or lengths b 0
      by None e = let q : None ≡ Some x = sym (ap (λ o. call_in o (Some i)) e) ∙ h in absurd (cc)
      by (Some v) e =
          let q : slice_get v i ≡ Some x = sym (ap (λ o. call_in o (Some i)) e) ∙ h in
          let n : get_or lengths b 0 ≡ length v = are b ∙ ap count_of e in
          omega (arith, n, slice_get_within v i x q)

  -- the branch is one of them
  branch-at : (b i : ℕ) (x : CallTime) → command_at branches b i ≡ Some x → b < length branches
  branch-at b i x h = by (slice_get branches b) refl
    where
      by : (o : Option (List CallTime)) → slice_get branches b ≡ o → b < length branches
      by None e = let q : None ≡ Some x = sym (ap (λ o. call_in o (Some i)) e) ∙ h in absurd (cc)
      by (Some v) e = slice_get_within branches b v e

  -- a command is not over before it is invoked
  not-over : (x : CallTime) → IsTimely x → precedes x x ≡ false
  not-over x timely = by x.completed refl timely
    where
      by : (o : Option ℕ) → x.completed ≡ o → MatchOption o (Unit {0}) (λ t. x.invoked ≤ t) → is_over o x.invoked ≡ false
      by None e h = refl
      by (Some t) e h = grind (arith, nat_tests)

  -- what is over before a time
  over-at : (o : Option ℕ) (t : ℕ) → is_over o t ≡ true → (s : ℕ) × (o ≡ Some s) × (s < t)
  over-at None t h = absurd (cc)
  over-at (Some s) t h = (s, refl, grind (arith, nat_tests))

  at-over : (s t : ℕ) → s < t → is_over (Some s) t ≡ true
  at-over s t h = grind (arith, nat_tests)

  module _ (timely : AreTimely branches) (turns : AreInTurn branches) where
    -- if a command is over, so are those of its branch before it
    earlier-over : (n b i : ℕ) (x y : CallTime) (t : ℕ) → command_at branches b i ≡ Some x → command_at branches b (i + n) ≡ Some y → is_over y.completed t ≡ true → is_over x.completed t ≡ true
    earlier-over zero b i x y t hx hy over =
        let z : i + 0 ≡ i = omega arith in
        let q : Some x ≡ Some y = sym hx ∙ sym (ap (command_at branches b) z) ∙ hy in
        let e : x ≡ y = cc in ap (λ c. is_over c.completed t) e ∙ over
    earlier-over (suc n) b i x y t hx hy over =
        let z : suc i + n ≡ i + suc n = omega arith in
        let hy' : command_at branches b (suc i + n) ≡ Some y = ap (command_at branches b) z ∙ hy in
        let next = earlier-at b (suc i) (suc i + n) y (omega arith) hy' in
        let k = earlier-over n b (suc i) next.0 y t next.1 hy' over in
        let turn = turns b i x next.0 hx next.1 in
        let a = over-at next.0.completed t k in
        let late : next.0.invoked ≤ a.0 = subst (λ o. MatchOption o (Unit {0}) (λ s. next.0.invoked ≤ s)) a.1 (timely b (suc i) next.0 next.1) in
        ap (λ o. is_over o t) turn.1 ∙ at-over turn.0 t (omega (arith, turn.2, late, a.2))

    module _ (lengths : List ℕ) (are : AreLengths branches lengths) where
      -- the commands of a word that follows another letter
      more-of : (done : List ℕ) (b : ℕ) → b < length done → (w : List ℕ) (i : ℕ) → call_from done (b ∷ w) (suc i) ≡ call_from (one_more done b) w i
      more-of done b l w i = by (slice_get w i) refl
        where
          by : (o : Option ℕ) → slice_get w i ≡ o → call_of done (b ∷ take i w) o ≡ call_of (one_more done b) (take i w) o
          by None e = refl
          by (Some c) e = ap (command_at branches c) (elim (cases_eq b c) [
            | inl p ↦ (let r : get_or (one_more done b) c 0 ≡ get_or done b 0 + 1 = subst (λ a. get_or (one_more done b) a 0 ≡ get_or done b 0 + 1) p (get_or-set_same done b (get_or done b 0 + 1) 0 l) in
                let s : get_or done b 0 ≡ get_or done c 0 = ap (λ a. get_or done a 0) p in
                omega (arith, times-same b c (take i w) p, r, s))
            | inr ne ↦ (let r : get_or (one_more done b) c 0 ≡ get_or done c 0 = get_or-set_other done b c (get_or done b 0 + 1) 0 (λ e. ne (sym e)) in
                omega (arith, times-other b c (take i w) ne, r))
          ])

      to-time : (done w : List ℕ) → IsAt lengths done → Completes lengths done w → IsInOrder (real_time branches) done w → IsInTimeFrom done w
      to-time done [] at k order = λ i j x y l hx hy. cc
      to-time done (b ∷ w) at k order = by (to-time (one_more done b) w (IsAt-more lengths done b at left) (Completes-tail lengths done b inside w k) order.1)
        where
          left : get_or done b 0 < get_or lengths b 0
          left = Completes-head lengths done b w k

          inside : b < length done
          inside = IsAt-branch lengths done b at left

          -- a later call does not precede the first one
          head : (o : Option ℕ) (before : List ℕ) (x y : CallTime) → command_at branches b (get_or done b 0) ≡ Some x → call_of done before o ≡ Some y → (r : Bool) → precedes y x ≡ r → r ≡ false
          head None before x y hx hy r e = absurd (cc)
          head (Some c) before x y hx hy false e = refl
          head (Some c) before x y hx hy true e =
              let more = times c before in
              let first = earlier-at c (get_or done c 0) (get_or done c 0 + more) y (omega arith) hy in
              let over : precedes first.0 x ≡ true = earlier-over more c (get_or done c 0) first.0 y x.invoked first.1 hy e in
              let here = within-at lengths are c (get_or done c 0) first.0 first.1 in
              let next = at-next done c first.0 (IsAt-branch lengths done c at here) first.1 in
              let one : one_precedes (next_of branches done c) x ≡ true = ap (λ o. one_precedes o x) next ∙ over in
              let some = precedes-some (next_of branches done) (length branches) c x (branch-at c (get_or done c 0) first.0 first.1) one in
              let closed : real_time branches done b ≡ false = ap (may_come (next_of branches done) (length branches)) (at-next done b x inside hx) ∙ ap not some in
              let q : true ≡ false = sym order.0 ∙ closed in cc

          by : IsInTimeFrom (one_more done b) w → IsInTimeFrom done (b ∷ w)
          by again zero zero x y l hx hy = absurd (omega arith)
          by again zero (suc j) x y l hx hy =
              let z : get_or done b 0 + 0 ≡ get_or done b 0 = omega arith in
              head (slice_get w j) (b ∷ take j w) x y (sym (ap (command_at branches b) z) ∙ hx) hy (precedes y x) refl
          by again (suc i) zero x y l hx hy = absurd (omega arith)
          by again (suc i) (suc j) x y l hx hy = again i j x y (omega arith) (sym (more-of done b inside w i) ∙ hx) (sym (more-of done b inside w j) ∙ hy)

      from-time : (done w : List ℕ) → IsAt lengths done → Completes lengths done w → IsInTimeFrom done w → IsInOrder (real_time branches) done w
      from-time done [] at k time = tt
      from-time done (b ∷ w) at k time = (
        opened,
        from-time (one_more done b) w (IsAt-more lengths done b at left) (Completes-tail lengths done b inside w k)
            (λ i j x y l hx hy. time (suc i) (suc j) x y (omega arith) (more-of done b inside w i ∙ hx) (more-of done b inside w j ∙ hy)),
      )
        where
          left : get_or done b 0 < get_or lengths b 0
          left = Completes-head lengths done b w k

          inside : b < length done
          inside = IsAt-branch lengths done b at left

          -- another branch's next command is in the word later
          one : (x : CallTime) → next_of branches done b ≡ Some x → (c : ℕ) (o : Option CallTime) → next_of branches done c ≡ o → one_precedes o x ≡ false
          one x hx c None e = refl
          one x hx c (Some z) e = elim (cases_eq c b) [
            | inl same ↦ (let q : Some z ≡ Some x = sym e ∙ ap (next_of branches done) same ∙ hx in
                let r : z ≡ x = cc in
                ap (λ a. precedes a x) r ∙ not-over x (timely b (get_or done b 0) x (next-at done b x hx)))
            | inr ne ↦ (let hz = next-at done c z e in
                let more = within-at lengths are c (get_or done c 0) z hz in
                let other : b ≡ c → ⊥ = λ s. ne (sym s) in
                let p = first_place c w (omega (arith, k c, more, times-other b c w other)) in
                let zero_x : get_or done b 0 + 0 ≡ get_or done b 0 = omega arith in
                let zero_z : get_or done c 0 + times c (b ∷ take p.0 w) ≡ get_or done c 0 = omega (arith, times-other b c (take p.0 w) other, p.2) in
                let at_z : call_from done (b ∷ w) (suc p.0) ≡ Some z = ap (call_of done (b ∷ take p.0 w)) p.1 ∙ ap (command_at branches c) zero_z ∙ hz in
                time 0 (suc p.0) x z (omega arith) (ap (command_at branches b) zero_x ∙ next-at done b x hx) at_z)
          ]

          opens : (o : Option CallTime) → next_of branches done b ≡ o → may_come (next_of branches done) (length branches) o ≡ true
          opens None e = refl
          opens (Some x) e = ap not (precedes-none (next_of branches done) (length branches) x (λ c l. one x e c (next_of branches done c) refl))

          opened : real_time branches done b ≡ true
          opened = opens (next_of branches done b) refl

-- from the start
zeros : (n b : ℕ) → ◌≡◌ {A = ℕ} (get_or (replicate n 0) b 0) 0
zeros zero b = refl
zeros (suc n) zero = refl
zeros (suc n) (suc b) = zeros n b

none-of : (branches : List (List CallTime)) (lengths w : List ℕ) (i : ℕ) → call_from branches (none_done lengths) w i ≡ call_at branches w i
none-of branches lengths w i = by (slice_get w i)
  where
    by : (o : Option ℕ) → call_of branches (none_done lengths) (take i w) o ≡ call_after branches (take i w) o
    by None = refl
    by (Some b) = let z = zeros (length lengths) b in let n : get_or (none_done lengths) b 0 + times b (take i w) ≡ times b (take i w) = omega (arith, z) in ap (command_at branches b) n

module _ (lengths : List ℕ) (branches : List (List CallTime)) (are : AreTimesOf lengths branches) (w : List ℕ) where
  pub order_to_time : IsMergeInOrder (real_time branches) lengths w → IsMergeInTime branches lengths w
  order_to_time k = (
    k.0,
    (λ i j x y l hx hy. to-time branches are.timely are.turns lengths are.each (none_done lengths) w (IsAt-none lengths) (merge lengths w k.0) k.1 i j x y l (none-of branches lengths w i ∙ hx) (none-of branches lengths w j ∙ hy)),
  )

  pub time_to_order : IsMergeInTime branches lengths w → IsMergeInOrder (real_time branches) lengths w
  time_to_order k = (
    k.0,
    from-time branches are.timely are.turns lengths are.each (none_done lengths) w (IsAt-none lengths) (merge lengths w k.0)
        (λ i j x y l hx hy. k.1 i j x y l (sym (none-of branches lengths w i) ∙ hx) (sym (none-of branches lengths w j) ∙ hy)),
  )

pub real_time_is_in_time : RealTimeIsOrderInTime
real_time_is_in_time lengths branches are w = (order_to_time lengths branches are w, time_to_order lengths branches are w)
