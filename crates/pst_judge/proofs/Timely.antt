-- Real time never blocks.
use Rattle.std.proofs.Common.{◌≡◌, ℕ, zero, suc, ◌<◌, ◌≤◌, ◌⊎◌, inl, inr, List, length, get_or, Bool, true, false, not, ◌||◌, Option, Some, None, MatchOption, refl, sym, ap, ◌∙◌, arith}
use Rattle.std.proofs.lemmas.Bool.{cases_lt}
use Rattle.std.proofs.lemmas.Bool.Decides.{nat_tests}
use Rattle.std.proofs.lemmas.Option.{get_or_from_slice_get, slice_get-get_or, slice_get_cases}
use Rattle.std.specs.Prelude.{slice_get, slice_index}
use Rattle.pst_grid.specs.Completions.{IsAt}
use Rattle.pst_grid.specs.Orders.{IsOpen}
use Rattle.pst_judge.specs.RealTime.{is_over, precedes, call_in, next_of, one_precedes, some_precedes, may_come, real_time, count_of, AreLengths, IsTimely, AreTimely, RealTimeNeverBlocks}
use Rattle.pst_case.specs.declared.history.CallTime.{CallTime}
use Rattle.pst_grid.proofs.Placing.{IsAt-branch}

get_below : {A : Type 0} (xs : List A) (i : ℕ) (x : A) → slice_get xs i ≡ Some x → i < length xs
get_below xs i x e = elim ((slice_get_cases xs i).1) [
  | inl p ↦ p.1
  | inr p ↦ (let q : None ≡ Some x = sym p.1 ∙ e in cc)
]

-- one of the first branches precedes the command
pub precedes-some : (next : ℕ → Option CallTime) (n c : ℕ) (y : CallTime) → c < n → one_precedes (next c) y ≡ true → some_precedes next n y ≡ true
precedes-some next zero c y h e = absurd (omega arith)
precedes-some next (suc n) c y h e = by (cases_lt c n) (λ k. precedes-some next n c y k e) (one_precedes (next n) y) refl
  where
    by : (c < n) ⊎ (n ≤ c) → (c < n → some_precedes next n y ≡ true) → (b : Bool) → one_precedes (next n) y ≡ b → one_precedes (next n) y || some_precedes next n y ≡ true
    by l again true f = ap (λ x. x || some_precedes next n y) f
    by (inl k) again false f = ap (λ x. x || some_precedes next n y) f ∙ again k
    by (inr k) again false f = let q : c ≡ n = omega arith in let r : true ≡ false = sym e ∙ ap (λ x. one_precedes (next x) y) q ∙ f in cc

-- none does
pub precedes-none : (next : ℕ → Option CallTime) (n : ℕ) (y : CallTime) → ((c : ℕ) → c < n → one_precedes (next c) y ≡ false) → some_precedes next n y ≡ false
precedes-none next zero y h = refl
precedes-none next (suc n) y h = ap (λ x. x || some_precedes next n y) (h n (omega arith)) ∙ precedes-none next n y (λ c k. h c (omega arith))

-- a command that was invoked first, of the first n branches
pub record Earliest (next : ℕ → Option CallTime) (n : ℕ) : Type 0 where
  pub branch : ℕ
  pub command : CallTime
  pub is : next branch ≡ Some command
  pub first : (c : ℕ) (x : CallTime) → c < n → next c ≡ Some x → command.invoked ≤ x.invoked

earliest : (next : ℕ → Option CallTime) (n : ℕ) → Earliest next n ⊎ ((c : ℕ) (x : CallTime) → c < n → next c ≡ Some x → ⊥)
earliest next zero = inr (λ c x l e. omega arith)
earliest next (suc n) = by (earliest next n) (next n) refl
  where
    last : (c : ℕ) (x y : CallTime) → n ≤ c → c < suc n → next c ≡ Some x → next n ≡ Some y → x ≡ y
    last c x y k l e f =
        let q : c ≡ n = omega arith in
        let r : Some x ≡ Some y = sym e ∙ ap next q ∙ f in cc

    by : Earliest next n ⊎ ((c : ℕ) (x : CallTime) → c < n → next c ≡ Some x → ⊥) → (o : Option CallTime) → next n ≡ o
        → Earliest next (suc n) ⊎ ((c : ℕ) (x : CallTime) → c < suc n → next c ≡ Some x → ⊥)
    by (inl p) None f = inl (record { branch = p.branch; command = p.command; is = p.is; first = first })
      where
        first : (c : ℕ) (x : CallTime) → c < suc n → next c ≡ Some x → p.command.invoked ≤ x.invoked
        first c x l e = elim (cases_lt c n) [
          | inl k ↦ p.first c x k e
          | inr k ↦ (let q : c ≡ n = omega arith in let r : Some x ≡ None = sym e ∙ ap next q ∙ f in cc)
        ]
    by (inl p) (Some y) f = elim (cases_lt y.invoked p.command.invoked) [
      | inl less ↦ inl (record {
        branch = n;
        command = y;
        is = f;
        first = λ c x l e. elim (cases_lt c n) [
          | inl k ↦ omega (arith, p.first c x k e)
          | inr k ↦ omega (arith, ap (λ z. z.invoked) (last c x y k l e f))
        ];
      })
      | inr more ↦ inl (record {
        branch = p.branch;
        command = p.command;
        is = p.is;
        first = λ c x l e. elim (cases_lt c n) [
          | inl k ↦ p.first c x k e
          | inr k ↦ omega (arith, ap (λ z. z.invoked) (last c x y k l e f))
        ];
      })
    ]
    by (inr none) None f = inr (λ c x l e. elim (cases_lt c n) [
      | inl k ↦ none c x k e
      | inr k ↦ (let q : c ≡ n = omega arith in let r : Some x ≡ None = sym e ∙ ap next q ∙ f in cc)
    ])
    by (inr none) (Some y) f = inl (record {
      branch = n;
      command = y;
      is = f;
      first = λ c x l e. elim (cases_lt c n) [
        | inl k ↦ absurd (none c x k e)
        | inr k ↦ omega (arith, ap (λ z. z.invoked) (last c x y k l e f))
      ];
    })

-- what was invoked later did not precede
later-over : (x y : CallTime) → IsTimely x → y.invoked ≤ x.invoked → precedes x y ≡ false
later-over x y timely later = by x.completed refl timely
  where
    by : (o : Option ℕ) → x.completed ≡ o → MatchOption o (Unit {0}) (λ t. x.invoked ≤ t) → is_over o y.invoked ≡ false
    by None e h = refl
    by (Some t) e h = let k : y.invoked ≤ t = omega arith in grind (arith, nat_tests)

-- the times are of these branches, or of the first of them
abbrev pub AreLengthsOfFirst : List (List CallTime) → List ℕ → Type 0
AreLengthsOfFirst branches lengths = (b : ℕ) (v : List CallTime) → slice_get branches b ≡ Some v → slice_index lengths b ≡ length v

module _ (branches : List (List CallTime)) (lengths : List ℕ) (are : AreLengthsOfFirst branches lengths) (timely : AreTimely branches) (done : List ℕ) (at : IsAt lengths done) where
  -- a branch that has times and a command left has a next one
  next-command : (b : ℕ) (v : List CallTime) → slice_get branches b ≡ Some v → get_or done b 0 < get_or lengths b 0 → (x : CallTime) × (next_of branches done b ≡ Some x) × (b < length branches)
  next-command b v e left =
      let i : slice_get done b ≡ Some (get_or done b 0) = slice_get-get_or done b 0 (IsAt-branch lengths done b at left) in
      let q : get_or lengths b 0 ≡ length v = are b v e in
      elim ((slice_get_cases v (get_or done b 0)).1) [
        | inl p ↦ (p.0, ap (λ o. call_in o (slice_get done b)) e ∙ ap (λ o. call_in (Some v) o) i ∙ p.2, get_below branches b v e)
        | inr p ↦ absurd (omega (arith, p.0))
      ]

  -- a branch that has a next one has times
  next-below : (b : ℕ) (x : CallTime) → next_of branches done b ≡ Some x → b < length branches
  next-below b x h = by (slice_get branches b) refl
    where
      by : (o : Option (List CallTime)) → slice_get branches b ≡ o → b < length branches
      by None e = let q : None ≡ Some x = sym (ap (λ o. call_in o (slice_get done b)) e) ∙ h in cc
      by (Some v) e = get_below branches b v e

  -- and a branch that has a next one has it left; no next one completed before it was invoked
  next-left : (b : ℕ) (x : CallTime) → next_of branches done b ≡ Some x → (get_or done b 0 < get_or lengths b 0) × IsTimely x
  next-left b x h = by (slice_get branches b) (slice_get done b) refl refl
    where
      by : (o : Option (List CallTime)) (p : Option ℕ) → slice_get branches b ≡ o → slice_get done b ≡ p → (get_or done b 0 < get_or lengths b 0) × IsTimely x
      by None p e f = let q : None ≡ Some x = sym (ap (λ o. call_in o (slice_get done b)) e) ∙ h in cc
      by (Some v) None e f = let q : None ≡ Some x = sym (ap (λ o. call_in o (slice_get done b)) e ∙ ap (λ o. call_in (Some v) o) f) ∙ h in cc
      by (Some v) (Some i) e f =
          let q : slice_get v i ≡ Some x = sym (ap (λ o. call_in o (slice_get done b)) e ∙ ap (λ o. call_in (Some v) o) f) ∙ h in
          let l = get_below v i x q in
          let same : get_or done b 0 ≡ i = get_or_from_slice_get done b i 0 f in
          let n : get_or lengths b 0 ≡ length v = are b v e in
          (omega arith, timely b i x (ap (λ o. call_in o (Some i)) e ∙ q))

  -- a branch with times is open, or this one has none and is
  pub open_one : (b : ℕ) → get_or done b 0 < get_or lengths b 0 → (c : ℕ) × IsOpen (real_time branches) lengths done c × ((c < length branches) ⊎ (c ≡ b))
  open_one b left = first_of (slice_get branches b) refl
    where
      by : (v : List CallTime) → slice_get branches b ≡ Some v → Earliest (next_of branches done) (length branches) ⊎ ((c : ℕ) (x : CallTime) → c < length branches → next_of branches done c ≡ Some x → ⊥)
          → (c : ℕ) × IsOpen (real_time branches) lengths done c × ((c < length branches) ⊎ (c ≡ b))
      by v e (inl p) = (
        p.branch,
        ((next-left p.branch p.command p.is).0, ap (may_come (next_of branches done) (length branches)) p.is ∙ ap not (precedes-none (next_of branches done) (length branches) p.command none)),
        inl (next-below p.branch p.command p.is),
      )
        where
          one : (c : ℕ) (o : Option CallTime) → c < length branches → next_of branches done c ≡ o → one_precedes o p.command ≡ false
          one c None l e = refl
          one c (Some x) l e = later-over x p.command ((next-left c x e).1) (p.first c x l e)

          none : (c : ℕ) → c < length branches → one_precedes (next_of branches done c) p.command ≡ false
          none c l = one c (next_of branches done c) l refl
      by v e (inr none) = let n = next-command b v e left in absurd (none b n.0 n.2 n.1)

      first_of : (o : Option (List CallTime)) → slice_get branches b ≡ o → (c : ℕ) × IsOpen (real_time branches) lengths done c × ((c < length branches) ⊎ (c ≡ b))
      first_of None e = (b, (left, ap (λ o. may_come (next_of branches done) (length branches) (call_in o (slice_get done b))) e), inr refl)
      first_of (Some v) e = by v e (earliest (next_of branches done) (length branches))

pub real-time-never-blocks : RealTimeNeverBlocks
real-time-never-blocks branches lengths are timely done at b left =
    let open_now = open_one branches lengths (λ b v e. are b ∙ ap count_of e) timely done at b left in (open_now.0, open_now.1)
