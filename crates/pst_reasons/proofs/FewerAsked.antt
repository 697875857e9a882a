-- Fewer postconditions asked, more possible; and how a core comes about.
use Rattle.std.proofs.Common.{◌≡◌, ◌==◌, ◌||◌, ℕ, Bool, true, false, List, [], ◌∷◌, ◌++◌, refl, sym, ap, ◌∙◌, ◌⊎◌, inl, inr, subst, append_assoc}
use Rattle.std.specs.Prelude.{if◌then◌else◌}
use Rattle.pst_case.specs.declared.case.Case.{Case}
use Rattle.pst_case.specs.declared.history.History.{History}
use Rattle.pst_judge.specs.Replay.{post_asked}
use Rattle.pst_judge.specs.declared.events.Event.{Event}
use Rattle.pst_model.specs.declared.model.Source.{Source}
use Rattle.pst_operators.specs.Operators.{truth_of, truth_at}
use Rattle.pst_operators.specs.Outcome.{Outcome, Gives}
use Rattle.pst_reasons.proofs.Among.{same_number, in_first, in_second, in_either, among_without, to_without, among_numbers}
use Rattle.pst_reasons.proofs.Fewer.{EachEvent, EachOfBranches, SaysTrue, replayed_true}
use Rattle.pst_reasons.proofs.Numbered.{IsUpTo, prefix_numbered, branches_numbered, suffix_numbered}
use Rattle.pst_reasons.specs.Reasons.{is_among, without, numbers_to, number_of_commands, asks, always_true, IsPossible, IsImpossible, IsNeeded, IsUnexplained}
use Rattle.pst_value.specs.declared.value.Value.{Value, out-roll-Value, Bool as Truth}
use Rattle.pst_value.specs.declared.value.Value.TheOpen.{Value-F}
use Rattle.pst_value.specs.declared.value.Value.TheVariants.{rolls-Bool}

abbrev Any : Event → Type 0
Any e = Unit {0}

each_any : (es : List Event) → EachEvent Any es
each_any [] = tt
each_any (e ∷ es) = (tt, each_any es)

branches_any : (ess : List (List Event)) → EachOfBranches Any ess
branches_any ess b i e h = tt

pub truth_is : truth_of (Truth true) ≡ Gives true
truth_is = ap truth_of (sym (rolls-Bool true)) ∙ ap truth_at (out-roll-Value (Value-F.Bool true))

-- fewer numbers, less asked
asked_less : (o : Outcome (Value × ℕ)) (x y : Bool) → (x ≡ true → y ≡ true) → SaysTrue (if y then o else always_true) → SaysTrue (if x then o else always_true)
asked_less o true true within h = h
asked_less o true false within h = absurd (let q = within refl in cc)
asked_less o false y within h = ((Truth true, 0), refl, truth_is)

asked_all : (o : Outcome (Value × ℕ)) (x : Bool) → x ≡ true → SaysTrue (if x then o else always_true) → SaysTrue o
asked_all o true is h = h
asked_all o false is h = absurd (cc)

module _ (m : Source) (order : List ℕ → ℕ → Bool) (c : Case) (h : History) where
  pub possible_fewer : (few many : List ℕ) → ((x : ℕ) → is_among x few ≡ true → is_among x many ≡ true) → IsPossible m order c h many → IsPossible m order c h few
  possible_fewer few many within p =
      (p.0, (p.1.0, replayed_true m (asks many m) (asks few m) Any (λ s e any k. asked_less (post_asked m s e) (is_among e.number few) (is_among e.number many) (within e.number) k) c h (each_any _) (branches_any _) (each_any _) p.0 p.1.1))

  -- the postconditions of all commands are all postconditions
  pub all_impossible : IsUnexplained m order c h → IsImpossible m order c h (numbers_to (number_of_commands c))
  all_impossible none p =
      let last = number_of_commands c in
      none p.0 p.1.0 (replayed_true m (asks (numbers_to last) m) (post_asked m) (IsUpTo last) (λ s e up k. asked_all (post_asked m s e) (is_among e.number (numbers_to last)) (among_numbers last e.number up.0 up.1) k) c h (prefix_numbered c h) (branches_numbered c h) (suffix_numbered c h) p.0 p.1.1)

  moved_over : (front core : List ℕ) (n : ℕ) → (front ++ n ∷ []) ++ core ≡ front ++ n ∷ core
  moved_over front core n = append_assoc front (n ∷ []) core

  pub kept_impossible : (front core : List ℕ) (n : ℕ) → IsImpossible m order c h ((front ++ n ∷ []) ++ core) → IsImpossible m order c h (front ++ n ∷ core)
  kept_impossible front core n = subst (IsImpossible m order c h) (moved_over front core n)

  -- a number is needed without which the others are possible
  pub kept_needed : (front core : List ℕ) (n : ℕ) → IsNeeded m order c h (front ++ n ∷ []) core → IsPossible m order c h (front ++ core) → IsNeeded m order c h front (n ∷ core)
  kept_needed front core n needed possible k member = at (n == k) refl
    where
      smaller : (n == k) ≡ true → (x : ℕ) → is_among x (without k (front ++ n ∷ core)) ≡ true → is_among x (front ++ core) ≡ true
      smaller is x q = let w = among_without x k (front ++ n ∷ core) q in side (in_either x front (n ∷ core) w.0) w.1
        where
          rest : (b : Bool) → (n == x) ≡ b → is_among x (n ∷ core) ≡ true → (x ≡ k → ⊥) → is_among x core ≡ true
          rest true same r other = absurd (other (sym (same_number n x same) ∙ same_number n k is))
          rest false same r other = let z : is_among x (n ∷ core) ≡ is_among x core = ap (λ b. b || is_among x core) same in cc

          side : (is_among x front ≡ true) ⊎ (is_among x (n ∷ core) ≡ true) → (x ≡ k → ⊥) → is_among x (front ++ core) ≡ true
          side (inl r) other = in_first x front core r
          side (inr r) other = in_second x front core (rest (n == x) refl r other)

      at : (b : Bool) → (n == k) ≡ b → IsPossible m order c h (without k (front ++ n ∷ core))
      at true is = possible_fewer (without k (front ++ n ∷ core)) (front ++ core) (smaller is) possible
      at false is =
          let z : is_among k core ≡ true = (let y : is_among k (n ∷ core) ≡ is_among k core = ap (λ b. b || is_among k core) is in cc) in
          let P : List ℕ → Type 0 = λ xs. IsPossible m order c h (without k xs) in
          subst P (moved_over front core n) (needed k z)

  -- what is needed stays so where another is left out
  pub left_needed : (front core : List ℕ) (n : ℕ) → IsNeeded m order c h (front ++ n ∷ []) core → IsNeeded m order c h front core
  left_needed front core n needed k member =
      possible_fewer (without k (front ++ core)) (without k ((front ++ n ∷ []) ++ core)) smaller (needed k member)
    where
      smaller : (x : ℕ) → is_among x (without k (front ++ core)) ≡ true → is_among x (without k ((front ++ n ∷ []) ++ core)) ≡ true
      smaller x q = let w = among_without x k (front ++ core) q in to_without x k ((front ++ n ∷ []) ++ core) w.1 (side (in_either x front core w.0))
        where
          side : (is_among x front ≡ true) ⊎ (is_among x core ≡ true) → is_among x ((front ++ n ∷ []) ++ core) ≡ true
          side (inl r) = in_first x (front ++ n ∷ []) core (in_first x front (n ∷ []) r)
          side (inr r) = in_second x (front ++ n ∷ []) core r
