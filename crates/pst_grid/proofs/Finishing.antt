-- Where a search stands at the end of all branches, or at a position that it remembers.
use Rattle.std.proofs.Common.{◌≡◌, ℕ, suc, ◌+◌, ◌≤◌, inl, List, [], ◌∷◌, ◌++◌, length, get_or, sum, Bool, true, false, not, Some, None, refl, sym, ap, subst, ◌∙◌, arith}
use Rattle.std.proofs.lemmas.List.{append-nil}
use Rattle.std.specs.Prelude.{Result, Ok, Err, IfOk, OnOk}
use Rattle.pst_grid.specs.declared.steps.StopReason.{StopReason}
use Rattle.pst_grid.specs.declared.steps.StopReason.TheVariants.{False, Fault}
use Rattle.pst_grid.specs.declared.steps.Ending.{Ending}
use Rattle.pst_grid.specs.declared.steps.Ending.TheVariants.{AllTrue, StopsAt}
use Rattle.pst_grid.specs.declared.steps.StepOutcome.{StepOutcome}
use Rattle.pst_grid.specs.Bounds.{Each}
use Rattle.pst_grid.specs.Completions.{IsAt}
use Rattle.pst_grid.specs.Orders.{Extends, IsFilled}
use Rattle.pst_grid.specs.Covered.{Covered, IsHeld, IsExplored}
use Rattle.pst_grid.specs.Kept.{Keeps, is_stopped, IsFresh, IsSought}
use Rattle.pst_grid.specs.Merges.{run}
use Rattle.pst_grid.specs.Remembered.{IsAccounted, AreAccounted, IsFoundOrCovered, HasCoveredAll, IsRemembered}
use Rattle.pst_grid.specs.declared.position.Position.{Position}
use Rattle.pst_grid.specs.declared.search.FirstFailures.{FirstFailures}
use Rattle.pst_grid.specs.declared.search.Goal.{Goal}
use Rattle.pst_grid.specs.declared.search.Goal.TheVariants.{ToEnd, Stopped}
use Rattle.pst_grid.specs.declared.search.SearchProgress.{SearchProgress}
use Rattle.pst_grid.proofs.Completing.{Completes-head}
use Rattle.pst_grid.proofs.Covering.{stops-explored}
use Rattle.pst_grid.proofs.Opening.{Extends-filled, filled_least}
use Rattle.pst_grid.proofs.Remembering.{from-all, from-below, accounted, all-accounted-on, met-again}

-- a fact of what is answered, from others of it
pub if-ok : {A B : Type 0} (P Q : A → Type 0) (E : Type 0) (r : Result A B) → (E → (a : A) → P a → Q a) → OnOk r E → IfOk r P → IfOk r Q
if-ok P Q E (Ok a) f e h = f e a h
if-ok P Q E (Err b) f e h = tt

-- where no command is left all are done
pub all-done : (lengths done : List ℕ) → length done ≡ length lengths
    → ((b : ℕ) → get_or done b 0 ≤ get_or lengths b 0) → ((b : ℕ) → get_or lengths b 0 ≤ get_or done b 0)
    → done ≡ lengths
all-done [] [] e within full = refl
all-done [] (d ∷ done) e within full = absurd (omega arith)
all-done (l ∷ lengths) [] e within full = absurd (omega arith)
all-done (l ∷ lengths) (d ∷ done) e within full =
    let p : d ≤ l = within 0 in
    let q : l ≤ d = full 0 in
    let h : d ≡ l = omega arith in
    let t = all-done lengths done (omega arith) (λ b. within (suc b)) (λ b. full (suc b)) in
    ap (λ x. x ∷ done) h ∙ ap (λ xs. l ∷ xs) t

module _ {S F : Type 0} (turn : S → ℕ → ℕ → StepOutcome S F) (rest : S → Ending F) (state : S) (order : List ℕ → ℕ → Bool) (lengths : List ℕ) where
  -- the one completion is the empty word, and its run is the rest
  module _ (done : List ℕ) (full : (b : ℕ) → get_or lengths b 0 ≤ get_or done b 0) where
    ended-run : (w : List ℕ) → Extends order lengths done w → run turn rest done state w ≡ rest state
    ended-run [] k = refl
    ended-run (a ∷ w) k = let p = Completes-head lengths done a w k.0 in let q = full a in absurd (omega arith)

    all-true : (before : List ℕ) (best : FirstFailures F) → rest state ≡ AllTrue → Covered turn rest Stopped done state before (Extends order lengths done) best best
    all-true before best e = record {
      none_sought = λ w k s. let r : Stopped ≡ ToEnd = subst (IsSought Stopped) (ended-run w k ∙ e) s in cc;
      kept = λ x f. f;
      none_faults = λ n w k f. let r : AllTrue ≡ StopsAt f.0 (Fault f.1) = sym e ∙ sym (ended-run w k) ∙ f.2 in cc;
      first = λ n x f. let r : Some x ≡ None = sym f ∙ n in cc;
      grows = omega arith;
      bounds = λ w n k f. let r : AllTrue ≡ StopsAt n False = sym e ∙ sym (ended-run w k) ∙ f in cc;
      reached = inl refl;
    }

  module _ (old new : SearchProgress F) (at : IsAt lengths old.done.items) (full : (b : ℕ) → get_or lengths b 0 ≤ get_or old.done.items b 0)
      (word : new.word.items ≡ old.word.items) (done : new.done.items ≡ old.done.items) where
    pub ended-true : (goal : Goal) → rest state ≡ AllTrue → new.best ≡ old.best → IsExplored turn rest goal state (Extends order lengths old.done.items) old new (not (is_stopped goal))
    ended-true ToEnd e best = record {
      letters = [];
      member = ((λ b. let p = full b in let q = at.within b in omega arith), tt);
      sought = subst (IsSought ToEnd) (sym e) refl;
      held = subst (λ x. IsHeld (length old.word.items) (old.word.items ++ []) x new) (sym e) (word ∙ sym (append-nil old.word.items));
      least = λ v k r. tt;
    }
    ended-true Stopped e best = record {
      word = word;
      done = done;
      covered = subst (Covered turn rest Stopped old.done.items state old.word.items (Extends order lengths old.done.items) old.best) (sym best) (all-true old.done.items full old.word.items old.best e);
    }

    pub ended-stop : (goal : Goal) (n : ℕ) (why : StopReason F) (fill : List ℕ) → rest state ≡ StopsAt n why → IsFresh goal old.best
        → IsFilled order lengths old.done.items fill
        → Keeps (length old.word.items + n) (old.word.items ++ fill) why old.best new.best
        → IsExplored turn rest goal state (Extends order lengths old.done.items) old new (is_stopped goal)
    ended-stop goal n why fill e fresh filled kept =
        stops-explored turn rest state (Extends order lengths old.done.items) n why fill
        (Extends-filled order lengths old.done.items fill at filled) (λ v k. filled_least order lengths old.done.items fill v at filled k) goal old new
        (λ w k. ended-run old.done.items full w k ∙ e) fresh word done kept

module _ {S F : Type 0} (turn : S → ℕ → ℕ → StepOutcome S F) (rest : S → Ending F) (goal : Goal) (state : S) (order : List ℕ → ℕ → Bool) (lengths : List ℕ) where
  -- what was explored leaves the positions accounted for
  pub still-accounted : (depth : ℕ) (W : List ℕ → Type 0) (old new : SearchProgress F) (keys : List (Position S)) (found : Bool) → AreAccounted turn rest goal order lengths depth old.best keys
      → IsExplored turn rest goal state W old new found → IsFoundOrCovered turn rest goal order lengths depth state W old new keys found
  still-accounted depth W old new keys true all h = h
  still-accounted depth W old new keys false all h = record {
    covered = h;
    accounted = all-accounted-on turn rest goal order lengths depth old.done.items old.word.items state W old.best new.best keys h.covered all;
  }

  module _ (old : SearchProgress F) (keys now : List (Position S)) (depth : sum old.done.items ≡ length old.word.items) (all : AreAccounted turn rest goal order lengths (sum old.done.items) old.best keys) where
    abbrev here : Position S
    here = record { done = old.done.items; state = state }

    -- a position that is met again
    pub again : IsRemembered old.done.items state keys → now ≡ keys → HasCoveredAll turn rest goal order lengths (sum old.done.items) state (Extends order lengths old.done.items) old old now
    again there is = record {
      covered = record { word = refl; done = refl; covered = met-again turn rest goal order lengths old.best keys old.done.items old.word.items state there depth all };
      accounted = subst (AreAccounted turn rest goal order lengths (sum old.done.items) old.best) (sym is) all;
    }

    -- a position that is remembered before the words behind it are searched
    module _ (is : now ≡ keys ++ here ∷ []) where
      pub accounted-below : AreAccounted turn rest goal order lengths (sum old.done.items + 1) old.best now
      accounted-below = from-below (λ k. IsAccounted turn rest goal order lengths old.best k.done k.state) (sum old.done.items) keys now here is (omega arith) all

      pub accounted-here : (new : SearchProgress F) (added after : List (Position S)) (found : Bool) → after ≡ now ++ added → Each (λ k. sum old.done.items + 1 ≤ sum k.done) added
          → IsFoundOrCovered turn rest goal order lengths (sum old.done.items + 1) state (Extends order lengths old.done.items) old new after found
          → IsFoundOrCovered turn rest goal order lengths (sum old.done.items) state (Extends order lengths old.done.items) old new after found
      accounted-here new added after true more deep h = h
      accounted-here new added after false more deep h = record {
        covered = h.covered;
        accounted = from-all (λ k. IsAccounted turn rest goal order lengths new.best k.done k.state) (sum old.done.items) keys added after here (more ∙ ap (λ ks. ks ++ added) is) deep
            (all-accounted-on turn rest goal order lengths (sum old.done.items) old.done.items old.word.items state _ old.best new.best keys h.covered.covered all)
            (accounted turn rest goal order lengths old.done.items old.word.items state old.best new.best depth h.covered.covered) h.accounted;
      }
