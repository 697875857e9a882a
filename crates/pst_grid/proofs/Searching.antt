-- The steps of a search.
use Rattle.std.proofs.Common.{◌≡◌, ℕ, suc, ◌+◌, ◌-◌, ◌<◌, ◌≤◌, ◌⊎◌, inl, inr, List, [], ◌∷◌, ◌++◌, length, take, get_or, set, Bool, true, refl, sym, ap, subst, ◌∙◌, arith, append_assoc, length-append}
use Rattle.std.proofs.lemmas.Bool.{cases_lt}
use Rattle.std.proofs.lemmas.List.{get_or-set_same, set-set, set-get_or, take_at}
use Rattle.pst_grid.specs.declared.steps.StopReason.{StopReason}
use Rattle.pst_grid.specs.declared.steps.Ending.{Ending}
use Rattle.pst_grid.specs.declared.steps.StepOutcome.{StepOutcome}
use Rattle.pst_grid.specs.declared.steps.StepOutcome.TheVariants.{Next, Stop}
use Rattle.pst_grid.specs.Completions.{IsAt}
use Rattle.pst_grid.specs.Orders.{Extends, Begins, IsFilled}
use Rattle.pst_grid.specs.Covered.{Covered, IsHeld, IsLeastSought, HasCovered, IsExplored}
use Rattle.pst_grid.specs.Kept.{Keeps, nothing_kept, is_stopped, IsFresh, IsSought}
use Rattle.pst_grid.specs.Merges.{run, IsUpTo, later, one_more}
use Rattle.pst_grid.specs.declared.steps.Ending.TheVariants.{AllTrue, StopsAt}
use Rattle.pst_grid.specs.declared.search.FirstFailures.{FirstFailures}
use Rattle.pst_grid.specs.declared.search.Goal.{Goal}
use Rattle.pst_grid.specs.declared.search.SearchProgress.{SearchProgress}
use Rattle.pst_grid.proofs.Completing.{BeginsBelow, Completes-head, Extends-tail, Extends-cons}
use Rattle.pst_grid.proofs.Placing.{IsAt-branch, IsAt-more}
use Rattle.pst_grid.proofs.Opening.{Extends-filled, filled_least}
use Rattle.pst_grid.proofs.Covering.{sought-later, later-sought, stops-explored, run-Next, run-begins, Covered-Next, Covered-start, Covered-more, Covered-all}

-- one more, and one fewer again
pub back_again : (done now : List ℕ) (b : ℕ) → b < length done → now ≡ one_more done b → set now b (get_or now b 0 - 1) ≡ done
back_again done now b h e =
    ap (λ x. set x b (get_or x b 0 - 1)) e
    ∙ ap (λ x. set (one_more done b) b (x - 1)) (get_or-set_same done b (get_or done b 0 + 1) 0 h)
    ∙ set-set done b (get_or done b 0 + 1) (get_or done b 0 + 1 - 1)
    ∙ ap (λ x. set done b x) (let k : get_or done b 0 + 1 - 1 ≡ get_or done b 0 = omega arith in k)
    ∙ set-get_or done b 0

pub take_again : (before now : List ℕ) (b : ℕ) → now ≡ before ++ b ∷ [] → take (length now - 1) now ≡ before
take_again before now b e = ap (λ x. take (length x - 1) x) e ∙ take_at before (b ∷ []) (length (before ++ b ∷ []) - 1) (omega (arith, length-append before (b ∷ [])))

module _ {S F : Type 0} (turn : S → ℕ → ℕ → StepOutcome S F) (rest : S → Ending F) (goal : Goal) (order : List ℕ → ℕ → Bool) (lengths : List ℕ) (state : S) where
  -- found behind branch b
  pub explored-found : (old now new : SearchProgress F) (b : ℕ) → HasCovered turn rest goal state (BeginsBelow order lengths old.done.items b) old now
      → IsLeastSought turn rest goal now.done.items state now.word.items (Begins order lengths now.done.items b) new
      → IsLeastSought turn rest goal old.done.items state old.word.items (Extends order lengths old.done.items) new
  explored-found old now new b h k =
      let j = subst (λ d. IsLeastSought turn rest goal d state now.word.items (Begins order lengths d b) new) h.done k in
      let l = subst (λ u. IsLeastSought turn rest goal old.done.items state u (Begins order lengths old.done.items b) new) h.word j in
      record { letters = l.letters; member = l.member.1; sought = l.sought; held = l.held; least = least l.letters l.member l.least }
    where
      least : (letters : List ℕ) → Begins order lengths old.done.items b letters → ((v : List ℕ) → Begins order lengths old.done.items b v → IsSought goal (run turn rest old.done.items state v) → IsUpTo letters v)
          → (v : List ℕ) → Extends order lengths old.done.items v → IsSought goal (run turn rest old.done.items state v) → IsUpTo letters v
      least [] s l v c r = tt
      least (a ∷ letters) s l [] c r = absurd (let p = c.0 a in let q = Completes-head lengths old.done.items a letters s.1.0 in omega arith)
      least (a ∷ letters) s l (d ∷ v) c r = by (cases_lt d b) (cases_lt b d)
        where
          by : (d < b) ⊎ (b ≤ d) → (b < d) ⊎ (d ≤ b) → IsUpTo (a ∷ letters) (d ∷ v)
          by (inl x) y = absurd (h.covered.none_sought (d ∷ v) (x, c) r)
          by (inr x) (inl y) = let e : a ≡ b = s.0 in inl (omega arith)
          by (inr x) (inr y) = let e : d ≡ b = omega arith in l (d ∷ v) (e, c) r

  -- one branch more
  pub explored-more : (old now new : SearchProgress F) (b : ℕ) → HasCovered turn rest goal state (BeginsBelow order lengths old.done.items b) old now
      → HasCovered turn rest goal state (Begins order lengths now.done.items b) now new → HasCovered turn rest goal state (BeginsBelow order lengths old.done.items (b + 1)) old new
  explored-more old now new b h k =
      let j = subst (λ d. Covered turn rest goal d state now.word.items (Begins order lengths d b) now.best new.best) h.done k.covered in
      let l = subst (λ u. Covered turn rest goal old.done.items state u (Begins order lengths old.done.items b) now.best new.best) h.word j in
      record { word = k.word ∙ h.word; done = k.done ∙ h.done; covered = Covered-more turn rest goal order lengths old.done.items state b old.word.items old.best now.best new.best h.covered l }

  pub explored-start : (old : SearchProgress F) → HasCovered turn rest goal state (BeginsBelow order lengths old.done.items 0) old old
  explored-start old = record { word = refl; done = refl; covered = Covered-start turn rest goal order lengths old.done.items state old.word.items old.best }

  -- all branches
  pub explored-all : (old new : SearchProgress F) (b : ℕ) → ((c : ℕ) × (get_or old.done.items c 0 < get_or lengths c 0)) → length lengths ≤ b
      → HasCovered turn rest goal state (BeginsBelow order lengths old.done.items b) old new → HasCovered turn rest goal state (Extends order lengths old.done.items) old new
  explored-all old new b left past h = record {
    word = h.word;
    done = h.done;
    covered = Covered-all turn rest goal order lengths old.done.items state b old.word.items old.best new.best left.0 left.1 past h.covered;
  }

  module _ (done before : List ℕ) (b : ℕ) (at : IsAt lengths done) (left : get_or done b 0 < get_or lengths b 0) (may : order done b ≡ true) where
    -- found behind a true event
    pub visited-found : (next : S) (done1 word1 : List ℕ) (new : SearchProgress F) → turn state b (get_or done b 0) ≡ Next next → done1 ≡ one_more done b → word1 ≡ before ++ b ∷ []
        → IsLeastSought turn rest goal done1 next word1 (Extends order lengths done1) new → IsLeastSought turn rest goal done state before (Begins order lengths done b) new
    visited-found next done1 word1 new e d u k =
        let j = subst (λ x. IsLeastSought turn rest goal x next word1 (Extends order lengths x) new) d k in
        let l = subst (λ x. IsLeastSought turn rest goal (one_more done b) next x (Extends order lengths (one_more done b)) new) u j in
        let runs = run-Next turn rest order lengths done state b (IsAt-branch lengths done b at left) next e l.letters in
        record {
          letters = b ∷ l.letters;
          member = (refl, Extends-cons order lengths done b (IsAt-branch lengths done b at left) may l.letters l.member);
          sought = subst (IsSought goal) (sym runs) (later-sought {F = F} goal (run turn rest (one_more done b) next l.letters) l.sought);
          held = subst (λ x. IsHeld (length before) (before ++ b ∷ l.letters) x new) (sym runs) (held-later l.letters (run turn rest (one_more done b) next l.letters) l.held);
          least = least l.letters l.least;
        }
      where
        held-later : (letters : List ℕ) (x : Ending F) → IsHeld (length (before ++ b ∷ [])) ((before ++ b ∷ []) ++ letters) x new → IsHeld (length before) (before ++ b ∷ letters) (later x) new
        held-later letters AllTrue h = h ∙ append_assoc before (b ∷ []) letters
        held-later letters (StopsAt n why) h =
            let place : length (before ++ b ∷ []) + n ≡ length before + suc n = omega (arith, length-append before (b ∷ [])) in
            subst (λ w. Keeps (length before + suc n) w why nothing_kept new.best) (append_assoc before (b ∷ []) letters)
            (subst (λ m. Keeps m ((before ++ b ∷ []) ++ letters) why nothing_kept new.best) place h)

        least : (letters : List ℕ) → ((v : List ℕ) → Extends order lengths (one_more done b) v → IsSought goal (run turn rest (one_more done b) next v) → IsUpTo letters v)
            → (v : List ℕ) → Begins order lengths done b v → IsSought goal (run turn rest done state v) → IsUpTo (b ∷ letters) v
        least letters l [] k r = absurd k.0
        least letters l (c ∷ v) k r = inr (
          sym k.0,
          l v (Extends-tail order lengths done b (IsAt-branch lengths done b at left) v (subst (λ a. Extends order lengths done (a ∷ v)) k.0 k.1))
              (sought-later {F = F} goal (run turn rest (one_more done b) next v) (subst (IsSought goal) (ap (λ a. run turn rest done state (a ∷ v)) k.0 ∙ run-Next turn rest order lengths done state b (IsAt-branch lengths done b at left) next e v) r)),
        )

    -- all behind a true event
    pub visited-Next : (next : S) (best : FirstFailures F) (entered explored : SearchProgress F) (best2 : FirstFailures F)
        → turn state b (get_or done b 0) ≡ Next next
        → entered.done.items ≡ one_more done b → entered.word.items ≡ before ++ b ∷ [] → entered.best ≡ best
        → HasCovered turn rest goal next (Extends order lengths entered.done.items) entered explored
        → best2 ≡ explored.best
        → Covered turn rest goal done state before (Begins order lengths done b) best best2
    visited-Next next best entered explored best2 e d u t h s =
        Covered-Next turn rest order lengths done state b (IsAt-branch lengths done b at left) goal before next best best2 may e
        (subst (λ x. Covered turn rest goal (one_more done b) next (before ++ b ∷ []) (Extends order lengths (one_more done b)) best x) (sym s)
        (subst (λ x. Covered turn rest goal (one_more done b) next (before ++ b ∷ []) (Extends order lengths (one_more done b)) x explored.best) t
        (subst (λ x. Covered turn rest goal (one_more done b) next x (Extends order lengths (one_more done b)) entered.best explored.best) u
        (subst (λ x. Covered turn rest goal x next entered.word.items (Extends order lengths x) entered.best explored.best) d h.covered))))

  -- all behind a stop
  pub visited-stop : (why : StopReason F) (old new : SearchProgress F) (b : ℕ) (fill : List ℕ) (at : IsAt lengths old.done.items) (left : get_or old.done.items b 0 < get_or lengths b 0) (may : order old.done.items b ≡ true)
      → turn state b (get_or old.done.items b 0) ≡ Stop why → IsFresh goal old.best → new.word.items ≡ old.word.items → new.done.items ≡ old.done.items
      → IsFilled order lengths (one_more old.done.items b) fill
      → Keeps (length old.word.items) ((old.word.items ++ b ∷ []) ++ fill) why old.best new.best
      → IsExplored turn rest goal state (Begins order lengths old.done.items b) old new (is_stopped goal)
  visited-stop why old new b fill at left may e fresh word done filled kept =
      let more = IsAt-more lengths old.done.items b at left in
      let fits = IsAt-branch lengths old.done.items b at left in
      stops-explored turn rest state (Begins order lengths old.done.items b) 0 why (b ∷ fill)
      (refl, Extends-cons order lengths old.done.items b fits may fill (Extends-filled order lengths (one_more old.done.items b) fill more filled))
      (λ v k. sorted more v k) goal old new (run-begins turn rest order lengths old.done.items state b fits why e) fresh word done
      (subst (λ w. Keeps (length old.word.items + 0) w why old.best new.best) (append_assoc old.word.items (b ∷ []) fill)
      (subst (λ m. Keeps m ((old.word.items ++ b ∷ []) ++ fill) why old.best new.best) (omega arith) kept))
    where
      sorted : IsAt lengths (one_more old.done.items b) → (v : List ℕ) → Begins order lengths old.done.items b v → IsUpTo (b ∷ fill) v
      sorted more [] k = absurd k.0
      sorted more (c ∷ v) k = inr (sym k.0, filled_least order lengths (one_more old.done.items b) fill v more filled (Extends-tail order lengths old.done.items b (IsAt-branch lengths old.done.items b at left) v (subst (λ a. Extends order lengths old.done.items (a ∷ v)) k.0 k.1)))
