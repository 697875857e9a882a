-- How the list of precedences grows.
use Rattle.std.proofs.Common.{◌≡◌, ℕ, ◌+◌, ◌<◌, ◌≤◌, ◌⊎◌, inl, inr, List, [], ◌∷◌, ◌++◌, length, true, false, Option, Some, None, refl, sym, ap, ◌∙◌, arith}
use Rattle.std.proofs.lemmas.Bool.{cases_lt}
use Rattle.std.proofs.lemmas.List.Elements.{All-nil, All-push, Contains-append_left, Contains-push}
use Rattle.std.proofs.lemmas.Option.{slice_get_within}
use Rattle.std.specs.Prelude.{slice_get}
use Rattle.pst_case.specs.declared.history.CallTime.{CallTime}
use Rattle.pst_judge.specs.InTime.{command_at}
use Rattle.pst_judge.specs.RealTime.{call_in, precedes}
use Rattle.pst_precedence.specs.Listing.{Adds, IsBetween, IsImplied, IsLastPreceding, IsLaterCall, IsLaterIn, ListsAll}
use Rattle.pst_precedence.specs.Precedences.{IsRecorded}
use Rattle.pst_precedence.specs.declared.precedence.Call.{Call}
use Rattle.pst_precedence.specs.declared.precedence.Precedence.{Precedence}

pub call_of : (x : Call) (b i : ℕ) → x.branch ≡ b → x.index ≡ i → x ≡ record { branch = b; index = i }
call_of x b i p q =
    let f : ℕ → Call = λ n. record { branch = n; index = x.index } in
    let g : ℕ → Call = λ n. record { branch = b; index = n } in
    ap f p ∙ ap g q

-- a command of a branch that is there
command_of : (times : List (List CallTime)) (calls : List CallTime) (b i : ℕ) → slice_get times b ≡ Some calls → command_at times b i ≡ slice_get calls i
command_of times calls b i e = ap (λ o. call_in o (Some i)) e

branch_of : (times : List (List CallTime)) (b i : ℕ) (x : CallTime) → command_at times b i ≡ Some x → b < length times
branch_of times b i x h = by (slice_get times b) refl
  where
    by : (o : Option (List CallTime)) → slice_get times b ≡ o → b < length times
    by None e = let q : None ≡ Some x = sym (ap (λ o. call_in o (Some i)) e) ∙ h in absurd (cc)
    by (Some v) e = slice_get_within times b v e

-- what this one implies
abbrev pub IsImpliedBy : Precedence → Precedence → Type 0
IsImpliedBy q p = (q.later ≡ p.later) × (q.earlier.branch ≡ p.earlier.branch) × (p.earlier.index ≤ q.earlier.index)

-- its later call is this one, and its earlier call is of one of the first branches
abbrev pub IsFromFirst : Call → ℕ → Precedence → Type 0
IsFromFirst later n p = (p.later ≡ later) × (p.earlier.branch < n)

-- its later call is one of the first ones of the branch
abbrev pub IsToFirst : ℕ → ℕ → Precedence → Type 0
IsToFirst branch n p = (p.later.branch ≡ branch) × (p.later.index < n)

-- its later call is of one of the first branches
abbrev pub IsToBranches : ℕ → Precedence → Type 0
IsToBranches n p = p.later.branch < n

module _ (times : List (List CallTime)) where
  pub unchanged : (W : Precedence → Type 0) (list : List Precedence) → ((p : Precedence) → W p → IsBetween times p → IsImplied list p) → Adds times W list list
  unchanged W list implied = record { recorded = λ r. r; kept = λ p i. i; implied = implied }

  pub both : (V W U : Precedence → Type 0) (a b c : List Precedence) → Adds times V a b → Adds times W b c
      → ((p : Precedence) → U p → IsBetween times p → V p ⊎ W p) → Adds times U a c
  both V W U a b c first second split = record {
    recorded = λ r. second.recorded (first.recorded r);
    kept = λ p i. second.kept p (first.kept p i);
    implied = λ p u between. elim (split p u between) [
      | inl v ↦ second.kept p (first.implied p v between)
      | inr w ↦ second.implied p w between
    ];
  }

  pub pushed : (list : List Precedence) (q : Precedence) → IsRecorded times q → Adds times (IsImpliedBy q) list (list ++ q ∷ [])
  pushed list q recorded = record {
    recorded = λ r. All-push (IsRecorded times) list q r recorded;
    kept = λ p i. record {
      by = i.by;
      listed = Contains-append_left list (q ∷ []) i.by i.listed;
      later = i.later;
      branch = i.branch;
      index = i.index;
    };
    implied = λ p by between. record {
      by = q;
      listed = Contains-push list q;
      later = by.0;
      branch = by.1;
      index = by.2;
    };
  }

  -- ---- the last call of another branch

  pub none_first : (later : Call) (list : List Precedence) → Adds times (IsFromFirst later 0) list list
  none_first later list = unchanged (IsFromFirst later 0) list (λ p w between. absurd (omega (arith, w.1)))

  pub all_first : (later : Call) (a b : List Precedence) → Adds times (IsFromFirst later (length times)) a b → Adds times (IsLaterCall later) a b
  all_first later a b adds = record {
    recorded = adds.recorded;
    kept = adds.kept;
    implied = λ p w between. adds.implied p (w, branch_of times p.earlier.branch p.earlier.index between.recorded.first between.recorded.is_first) between;
  }

  -- the branch of the call itself
  pub own_branch : (later : Call) (n : ℕ) (a b : List Precedence) → n ≡ later.branch → Adds times (IsFromFirst later n) a b → Adds times (IsFromFirst later (n + 1)) a b
  own_branch later n a b is adds = record {
    recorded = adds.recorded;
    kept = adds.kept;
    implied = λ p w between. elim (cases_lt p.earlier.branch n) [
      | inl l ↦ adds.implied p (w.0, l) between
      | inr l ↦ absurd (between.apart (let e = ap (λ (x : Call). x.branch) w.0 in let q : p.earlier.branch ≡ p.later.branch = omega (arith, w.1, l, e, is) in q))
    ];
  }

  module _ (later : Call) (time : CallTime) (calls : List CallTime) (n : ℕ) (is : command_at times later.branch later.index ≡ Some time) (at : slice_get times n ≡ Some calls) where
    -- the earlier call of a precedence whose later call is this one
    earlier_of : (p : Precedence) → IsRecorded times p → p.later ≡ later → p.earlier.branch ≡ n → (x : CallTime) × (slice_get calls p.earlier.index ≡ Some x) × (precedes x time ≡ true)
    earlier_of p recorded e same =
        let f : command_at times n p.earlier.index ≡ Some recorded.first = ap (λ b. command_at times b p.earlier.index) (sym same) ∙ recorded.is_first in
        let g : Some recorded.second ≡ Some time = sym recorded.is_second ∙ ap (λ (x : Call). command_at times x.branch x.index) e ∙ is in
        let h : recorded.second ≡ time = cc in
        (recorded.first, sym (command_of times calls n p.earlier.index at) ∙ f, ap (precedes recorded.first) (sym h) ∙ recorded.before)

    at_n : (p : Precedence) → p.earlier.branch < n + 1 → n ≤ p.earlier.branch → p.earlier.branch ≡ n
    at_n p l h = omega arith

    pub none_precedes : (a b : List Precedence) → IsLastPreceding calls time None → Adds times (IsFromFirst later n) a b → Adds times (IsFromFirst later (n + 1)) a b
    none_precedes a b none adds = record {
      recorded = adds.recorded;
      kept = adds.kept;
      implied = λ p w between. elim (cases_lt p.earlier.branch n) [
        | inl l ↦ adds.implied p (w.0, l) between
        | inr l ↦ (let x = earlier_of p between.recorded w.0 (at_n p w.1 l) in let q : true ≡ false = sym x.2 ∙ none p.earlier.index x.0 x.1 in absurd (cc))
      ];
    }

    pub last_precedes : (a b : List Precedence) (last : ℕ) → IsLastPreceding calls time (Some last) → Adds times (IsFromFirst later n) a b
        → Adds times (IsFromFirst later (n + 1)) a (b ++ record { earlier = record { branch = n; index = last }; later = later } ∷ [])
    last_precedes a b last is_last adds =
        let q : Precedence = record { earlier = record { branch = n; index = last }; later = later } in
        let recorded : IsRecorded times q = record {
          first = is_last.0.0;
          second = time;
          is_first = command_of times calls n last at ∙ is_last.0.1;
          is_second = is;
          before = is_last.0.2;
        } in
        both (IsFromFirst later n) (IsImpliedBy q) (IsFromFirst later (n + 1)) a b (b ++ q ∷ []) adds (pushed b q recorded)
        (λ p w between. elim (cases_lt p.earlier.branch n) [
          | inl l ↦ inl (w.0, l)
          | inr l ↦ (let e = at_n p w.1 l in let x = earlier_of p between.recorded w.0 e in inr (sym w.0, sym e, is_last.1 p.earlier.index x.0 x.1 x.2))
        ])

  -- ---- the calls of a branch

  pub none_to_first : (branch : ℕ) (list : List Precedence) → Adds times (IsToFirst branch 0) list list
  none_to_first branch list = unchanged (IsToFirst branch 0) list (λ p w between. absurd (omega (arith, w.1)))

  pub one_to_first : (branch n : ℕ) (a b c : List Precedence) → Adds times (IsToFirst branch n) a b → Adds times (IsLaterCall (record { branch = branch; index = n })) b c → Adds times (IsToFirst branch (n + 1)) a c
  one_to_first branch n a b c first second =
      both (IsToFirst branch n) (IsLaterCall (record { branch = branch; index = n })) (IsToFirst branch (n + 1)) a b c first second
      (λ p w between. elim (cases_lt p.later.index n) [
        | inl l ↦ inl (w.0, l)
        | inr l ↦ inr (call_of p.later branch n w.0 (let e : p.later.index ≡ n = omega (arith, w.1, l) in e))
      ])

  pub all_to_first : (branch : ℕ) (calls : List CallTime) (a b : List Precedence) → slice_get times branch ≡ Some calls → Adds times (IsToFirst branch (length calls)) a b → Adds times (IsLaterIn branch) a b
  all_to_first branch calls a b at adds = record {
    recorded = adds.recorded;
    kept = adds.kept;
    implied = λ p w between. adds.implied p (w, slice_get_within calls p.later.index between.recorded.second (sym (command_of times calls branch p.later.index at) ∙ ap (λ n. command_at times n p.later.index) (sym w) ∙ between.recorded.is_second)) between;
  }

  -- ---- all branches

  pub none_listed : Adds times (IsToBranches 0) [] []
  none_listed = unchanged (IsToBranches 0) [] (λ p w between. absurd (omega (arith, w)))

  pub one_listed : (n : ℕ) (a b c : List Precedence) → Adds times (IsToBranches n) a b → Adds times (IsLaterIn n) b c → Adds times (IsToBranches (n + 1)) a c
  one_listed n a b c first second =
      both (IsToBranches n) (IsLaterIn n) (IsToBranches (n + 1)) a b c first second
      (λ p w between. elim (cases_lt p.later.branch n) [
        | inl l ↦ inl l
        | inr l ↦ inr (let e : p.later.branch ≡ n = omega (arith, w, l) in e)
      ])

  pub all_listed : (list : List Precedence) → Adds times (IsToBranches (length times)) [] list → ListsAll times list
  all_listed list adds = record {
    recorded = adds.recorded (All-nil (IsRecorded times));
    implied = λ p between. adds.implied p (branch_of times p.later.branch p.later.index between.recorded.second between.recorded.is_second) between;
  }

-- ---- the last call that precedes another

-- the last of the first n calls that precedes the call
abbrev pub IsLastOfFirst : List CallTime → CallTime → ℕ → Option ℕ → Type 0
IsLastOfFirst calls call n None = (i : ℕ) (x : CallTime) → i < n → slice_get calls i ≡ Some x → precedes x call ≡ false
IsLastOfFirst calls call n (Some last) =
    ((x : CallTime) × (slice_get calls last ≡ Some x) × (precedes x call ≡ true))
    × ((i : ℕ) (x : CallTime) → i < n → slice_get calls i ≡ Some x → precedes x call ≡ true → i ≤ last)

pub last_of_none : (calls : List CallTime) (call : CallTime) → IsLastOfFirst calls call 0 None
last_of_none calls call i x l e = absurd (omega (arith, l))

module _ (calls : List CallTime) (call x : CallTime) (n : ℕ) (at : slice_get calls n ≡ Some x) where
  same_call : (i : ℕ) (y : CallTime) → i < n + 1 → n ≤ i → slice_get calls i ≡ Some y → y ≡ x
  same_call i y l h e =
      let q : i ≡ n = omega (arith, l, h) in
      let r : Some y ≡ Some x = sym e ∙ ap (slice_get calls) q ∙ at in cc

  pub last_stays : (last : Option ℕ) → precedes x call ≡ false → IsLastOfFirst calls call n last → IsLastOfFirst calls call (n + 1) last
  last_stays None no_more is = λ i y l e. elim (cases_lt i n) [
    | inl k ↦ is i y k e
    | inr k ↦ ap (λ z. precedes z call) (same_call i y l k e) ∙ no_more
  ]
  last_stays (Some last) no_more is = (
    is.0,
    λ i y l e before. elim (cases_lt i n) [
      | inl k ↦ is.1 i y k e before
      | inr k ↦ (let q : true ≡ false = sym before ∙ ap (λ z. precedes z call) (same_call i y l k e) ∙ no_more in absurd (cc))
    ],
  )

  pub last_is_new : precedes x call ≡ true → IsLastOfFirst calls call (n + 1) (Some n)
  last_is_new before = ((x, at, before), λ i y l e k. omega (arith, l))

pub last_of_all : (calls : List CallTime) (call : CallTime) (last : Option ℕ) → IsLastOfFirst calls call (length calls) last → IsLastPreceding calls call last
last_of_all calls call None is = λ i x e. is i x (slice_get_within calls i x e) e
last_of_all calls call (Some last) is = (is.0, λ i x e before. is.1 i x (slice_get_within calls i x e) e before)
