-- How what a search has covered grows.
use Rattle.std.proofs.Common.{◌≡◌, ℕ, suc, ◌+◌, ◌<◌, ◌≤◌, ◌⊎◌, inl, inr, List, [], ◌∷◌, ◌++◌, length, get_or, nat_lt, Bool, true, false, true≢false, MatchBool, Option, Some, None, MatchOption, refl, sym, ap, subst, ◌∙◌, arith, append_assoc, length-append}
use Rattle.std.proofs.lemmas.Bool.{cases_lt}
use Rattle.std.proofs.lemmas.Bool.Decides.{nat_tests}
use Rattle.std.specs.Option.{is_none}
use Rattle.pst_grid.specs.declared.steps.StopReason.{StopReason}
use Rattle.pst_grid.specs.declared.steps.StopReason.TheVariants.{False, Fault}
use Rattle.pst_grid.specs.declared.steps.StepOutcome.{StepOutcome}
use Rattle.pst_grid.specs.declared.steps.StepOutcome.TheVariants.{Next, Stop}
use Rattle.pst_grid.specs.Orders.{Extends, Begins}
use Rattle.pst_grid.specs.Covered.{FaultsOn, IsLeastFault, IsFurther, Covered, IsHeld, IsExplored}
use Rattle.pst_grid.specs.Kept.{reach, Keeps, KeepsFurthest, KeepsFault, is_stopped, IsFresh, IsSought, is_kept}
use Rattle.pst_grid.specs.Merges.{run, IsUpTo, after, later, one_more}
use Rattle.pst_grid.specs.declared.steps.Ending.{Ending}
use Rattle.pst_grid.specs.declared.steps.Ending.TheVariants.{AllTrue, StopsAt}
use Rattle.pst_grid.specs.declared.search.FirstFailures.{FirstFailures}
use Rattle.pst_grid.specs.declared.search.FalseInterleaving.{FalseInterleaving}
use Rattle.pst_grid.specs.declared.search.FaultedInterleaving.{FaultedInterleaving}
use Rattle.pst_grid.specs.declared.search.Goal.{Goal}
use Rattle.pst_grid.specs.declared.search.Goal.TheVariants.{ToEnd, Stopped}
use Rattle.pst_grid.specs.declared.search.SearchProgress.{SearchProgress}
use Rattle.pst_grid.proofs.Completing.{BeginsBelow, Completes-head, Completes-letter, Extends-tail, Extends-cons}

pub later-AllTrue : {F : Type 0} (e : Ending F) → later e ≡ AllTrue → e ≡ AllTrue
later-AllTrue AllTrue h = refl
later-AllTrue (StopsAt n why) h = cc

-- ---- what is kept of the merges that stop at a false event

pub same_reach : (old new : Option FalseInterleaving) → new ≡ old → reach old ≤ reach new
same_reach old new e = omega (arith, ap reach e)

-- this word, which stops at a false event after so many true ones, is kept, and is further than the one before
pub record IsNew (n : ℕ) (w : List ℕ) (old new : Option FalseInterleaving) : Type 0 where
  pub merge : FalseInterleaving
  pub kept : new ≡ Some merge
  pub more : reach old ≤ n
  pub place : merge.at ≡ n
  pub word : merge.word.items ≡ w

pub record IsKept (n : ℕ) (w : List ℕ) (old new : Option FalseInterleaving) : Type 0 where
  pub grows : reach old ≤ reach new
  pub bounds : n < reach new
  pub either : (new ≡ old) ⊎ IsNew n w old new

kept_new : (at : ℕ) (word : List ℕ) (old new : Option FalseInterleaving) → reach old ≤ at → MatchOption new ⊥ (λ x. (x.at ≡ at) × (x.word.items ≡ word)) → IsKept at word old new
kept_new at word old None more h = absurd h
kept_new at word old (Some x) more h = record {
  grows = omega (arith, more, h.0);
  bounds = omega (arith, h.0);
  either = inr (record { merge = x; kept = refl; more = more; place = h.0; word = h.1 });
}

kept_old : (at : ℕ) (word : List ℕ) (old new : Option FalseInterleaving) → at < reach old → new ≡ old → IsKept at word old new
kept_old at word old new less e = record { grows = same_reach old new e; bounds = omega (arith, less, ap reach e); either = inl e }

pub kept_furthest : (at : ℕ) (word : List ℕ) (old new : Option FalseInterleaving) → KeepsFurthest at word old new → IsKept at word old new
kept_furthest at word None new h = kept_new at word None new (omega arith) h
kept_furthest at word (Some x) new h = by (nat_lt x.at at) refl h
  where
    by : (b : Bool) → nat_lt x.at at ≡ b → MatchBool b (MatchOption new ⊥ (λ y. (y.at ≡ at) × (y.word.items ≡ word))) (new ≡ Some x) → IsKept at word (Some x) new
    by true e k = kept_new at word (Some x) new (let l : x.at < at = grind (arith, nat_tests) in omega (arith, l)) k
    by false e k = kept_old at word (Some x) new (let l : at ≤ x.at = grind (arith, nat_tests) in omega (arith, l)) k

pub keeps-none : {F : Type 0} (n : ℕ) (word : List ℕ) (why : StopReason F) (best : FirstFailures F) → is_kept n why best ≡ false → Keeps n word why best best
keeps-none n word False best e =
    (refl, subst (λ b. MatchBool b (MatchOption best.furthest ⊥ (λ x. (x.at ≡ n) × (x.word.items ≡ word))) (best.furthest ≡ best.furthest)) (sym e) refl)
keeps-none {F} n word (Fault fault) best e = (refl, by best.fault refl e)
  where
    by : (o : Option (FaultedInterleaving F)) → best.fault ≡ o → is_none o ≡ false
        → MatchOption o (MatchOption best.fault ⊥ (λ x. (x.at ≡ n) × (x.word.items ≡ word) × (x.fault ≡ fault))) (λ x. best.fault ≡ Some x)
    by None k h = cc
    by (Some x) k h = k

-- ---- endings

pub record Earlier {F : Type 0} (e : Ending F) (n : ℕ) (why : StopReason F) : Type 0 where
  pub steps : ℕ
  pub more : n ≡ suc steps
  pub ends : e ≡ StopsAt steps why

-- the search is for a word just where it is for the rest of it behind a true event
pub sought-later : {F : Type 0} (goal : Goal) (e : Ending F) → IsSought goal (later e) → IsSought goal e
sought-later goal AllTrue h = h
sought-later goal (StopsAt n why) h = h

pub later-sought : {F : Type 0} (goal : Goal) (e : Ending F) → IsSought goal e → IsSought goal (later e)
later-sought goal AllTrue h = h
later-sought goal (StopsAt n why) h = h

pub later-StopsAt : {F : Type 0} (e : Ending F) (n : ℕ) (why : StopReason F) → later e ≡ StopsAt n why → Earlier e n why
later-StopsAt AllTrue n why h = cc
later-StopsAt (StopsAt k w) n why h = record { steps = k; more = cc; ends = cc }

module _ {S F : Type 0} (turn : S → ℕ → ℕ → StepOutcome S F) (rest : S → Ending F) (goal : Goal) (done : List ℕ) (state : S) where
  -- the words of A, and then those of B, which all come later
  pub Covered-join : (before : List ℕ) (A B W : List ℕ → Type 0) (x y z : FirstFailures F)
      → ((w : List ℕ) → W w → A w ⊎ B w) → ((w : List ℕ) → A w → W w) → ((w : List ℕ) → B w → W w)
      → ((v w : List ℕ) → A v → B w → IsUpTo v w)
      → Covered turn rest goal done state before A x y → Covered turn rest goal done state before B y z → Covered turn rest goal done state before W x z
  Covered-join before A B W x y z split left right sorted a b = record {
    none_sought = λ w k. elim (split w k) [ inl p ↦ a.none_sought w p | inr p ↦ b.none_sought w p ];
    kept = λ f e. b.kept f (a.kept f e);
    none_faults = λ e w k. elim (split w k) [ inl p ↦ a.none_faults (none_before e) w p | inr p ↦ b.none_faults e w p ];
    first = first_of_both;
    grows = omega (arith, a.grows, b.grows);
    bounds = λ w n k e. elim (split w k) [ inl p ↦ omega (arith, a.bounds w n p e, b.grows) | inr p ↦ b.bounds w n p e ];
    reached = reached_by_both;
  }
    where
      none_before : z.fault ≡ None → y.fault ≡ None
      none_before e = by y.fault refl
        where
          by : (o : Option (FaultedInterleaving F)) → y.fault ≡ o → y.fault ≡ None
          by None k = k
          by (Some f) k = let j = b.kept f k in cc

      first_of_both : x.fault ≡ None → (f : FaultedInterleaving F) → z.fault ≡ Some f → IsLeastFault turn rest done state before W f
      first_of_both none f e = by y.fault refl
        where
          by : (o : Option (FaultedInterleaving F)) → y.fault ≡ o → IsLeastFault turn rest done state before W f
          by None k = let l = b.first k f e in record {
            letters = l.letters;
            steps = l.steps;
            member = right l.letters l.member;
            word = l.word;
            faults = l.faults;
            place = l.place;
            least = λ v p q. elim (split v p) [ inl s ↦ absurd (a.none_faults k v s q) | inr s ↦ l.least v s q ];
          }
          by (Some g) k =
              let j : g ≡ f = (let u = b.kept g k in cc) in
              let l = a.first none f (k ∙ ap (λ t. Some t) j) in record {
                letters = l.letters;
                steps = l.steps;
                member = left l.letters l.member;
                word = l.word;
                faults = l.faults;
                place = l.place;
                least = λ v p q. elim (split v p) [ inl s ↦ l.least v s q | inr s ↦ sorted l.letters v l.member s ];
              }

      -- the words of A that stop at a false event do so before the furthest merge of B
      further_right : IsFurther turn rest done state before B y.furthest z.furthest → IsFurther turn rest done state before W x.furthest z.furthest
      further_right p = let l = p.least in record {
        merge = p.merge;
        kept = p.kept;
        more = omega (arith, a.grows, p.more);
        least = record {
          letters = l.letters;
          steps = l.steps;
          member = right l.letters l.member;
          word = l.word;
          stops = l.stops;
          place = l.place;
          least = λ v k q. elim (split v k) [ inl s ↦ absurd (omega (arith, a.bounds v l.steps s q, p.more, l.place)) | inr s ↦ l.least v s q ];
        };
      }

      further_left : z.furthest ≡ y.furthest → IsFurther turn rest done state before A x.furthest y.furthest → IsFurther turn rest done state before W x.furthest z.furthest
      further_left e p = let l = p.least in record {
        merge = p.merge;
        kept = e ∙ p.kept;
        more = p.more;
        least = record {
          letters = l.letters;
          steps = l.steps;
          member = left l.letters l.member;
          word = l.word;
          stops = l.stops;
          place = l.place;
          least = λ v k q. elim (split v k) [ inl s ↦ l.least v s q | inr s ↦ sorted l.letters v l.member s ];
        };
      }

      reached_by_both : (z.furthest ≡ x.furthest) ⊎ IsFurther turn rest done state before W x.furthest z.furthest
      reached_by_both = elim b.reached [
        | inr p ↦ inr (further_right p)
        | inl e ↦ elim a.reached [ inl d ↦ inl (e ∙ d) | inr p ↦ inr (further_left e p) ]
      ]

  -- no words at all
  pub Covered-none : (before : List ℕ) (W : List ℕ → Type 0) (x : FirstFailures F) → ((w : List ℕ) → W w → ⊥) → Covered turn rest goal done state before W x x
  Covered-none before W x empty = record {
    none_sought = λ w k e. empty w k;
    kept = λ f e. e;
    none_faults = λ e w k f. empty w k;
    first = λ e f g. let j : Some f ≡ None = sym g ∙ e in cc;
    grows = omega arith;
    bounds = λ w n k e. absurd (empty w k);
    reached = inl refl;
  }

  -- the same words by another name
  pub Covered-same : (before : List ℕ) (A B : List ℕ → Type 0) (x y : FirstFailures F) → ((w : List ℕ) → A w → B w) → ((w : List ℕ) → B w → A w) → Covered turn rest goal done state before A x y → Covered turn rest goal done state before B x y
  Covered-same before A B x y to from a =
      Covered-join before A (λ w. ⊥) B x y y (λ w k. inl (from w k)) to (λ w k. absurd k) (λ v w k e. absurd e) a (Covered-none before (λ w. ⊥) y (λ w k. k))

  -- a search for words that stop keeps nothing while it finds none
  pub still-fresh : (before : List ℕ) (W : List ℕ → Type 0) (x y : FirstFailures F) → Covered turn rest goal done state before W x y → IsFresh goal x → IsFresh goal y
  still-fresh before W x y c fresh g = no_fault y.fault refl ∙ ap (λ u. record { fault = None; furthest = u }) no_false
    where
      stops : (w : List ℕ) (n : ℕ) (why : StopReason F) → W w → run turn rest done state w ≡ StopsAt n why → ⊥
      stops w n why k e = c.none_sought w k (subst (IsSought goal) (sym e) g)

      no_fault : (o : Option (FaultedInterleaving F)) → y.fault ≡ o → y ≡ record { fault = None; furthest = y.furthest }
      no_fault None k = ap (λ u. record { fault = u; furthest = y.furthest }) k
      no_fault (Some f) k = let l = c.first (ap (λ b. b.fault) (fresh g)) f k in absurd (stops l.letters l.steps (Fault f.fault) l.member l.faults)

      no_false : y.furthest ≡ None
      no_false = elim c.reached [ inl e ↦ e ∙ ap (λ b. b.furthest) (fresh g) | inr p ↦ (let l = p.least in absurd (stops l.letters l.steps False l.member l.stops)) ]

  -- the words of W all stop, for one reason and after as many true events, and the one with these letters is the least
  module _ (W : List ℕ → Type 0) (n : ℕ) (letters : List ℕ) (member : W letters) (sorted : (v : List ℕ) → W v → IsUpTo letters v) where
    pub stops-covered : (before : List ℕ) (why : StopReason F) (x y : FirstFailures F) → ((w : List ℕ) → W w → run turn rest done state w ≡ StopsAt n why) → (goal ≡ Stopped → ⊥)
        → Keeps (length before + n) (before ++ letters) why x y → Covered turn rest goal done state before W x y
    stops-covered before False x y all passed h = record {
      none_sought = λ w k s. passed (subst (IsSought goal) (all w k) s);
      kept = λ f g. h.0 ∙ g;
      none_faults = λ e w k f. let r : StopsAt n False ≡ StopsAt f.0 (Fault f.1) = sym (all w k) ∙ f.2 in cc;
      first = λ e f g. let r : Some f ≡ None = sym g ∙ h.0 ∙ e in cc;
      grows = kept.grows;
      bounds = λ w m k e. let r : StopsAt n False ≡ StopsAt m False = sym (all w k) ∙ e in let z : m ≡ n = cc in omega (arith, kept.bounds, z);
      reached = elim kept.either [ inl d ↦ inl d | inr p ↦ inr (further p) ];
    }
      where
        kept : IsKept (length before + n) (before ++ letters) x.furthest y.furthest
        kept = kept_furthest (length before + n) (before ++ letters) x.furthest y.furthest h.1

        further : IsNew (length before + n) (before ++ letters) x.furthest y.furthest → IsFurther turn rest done state before W x.furthest y.furthest
        further p = record {
          merge = p.merge;
          kept = p.kept;
          more = omega (arith, p.more, p.place);
          least = record { letters = letters; steps = n; member = member; word = p.word; stops = all letters member; place = p.place; least = λ v k q. sorted v k };
        }
    stops-covered before (Fault fault) x y all passed h = record {
      none_sought = λ w k s. passed (subst (IsSought goal) (all w k) s);
      kept = λ f e. still x.fault f e h.1;
      none_faults = λ e w k f. absurd (some_fault x.fault y.fault e h.1);
      first = λ e f k. least f (subst (λ o. KeepsFault (length before + n) (before ++ letters) fault o (Some f)) e (subst (KeepsFault (length before + n) (before ++ letters) fault x.fault) k h.1));
      grows = same_reach x.furthest y.furthest h.0;
      bounds = λ w m k e. let r : StopsAt n (Fault fault) ≡ StopsAt m False = sym (all w k) ∙ e in cc;
      reached = inl h.0;
    }
      where
        still : (o : Option (FaultedInterleaving F)) (f : FaultedInterleaving F) → o ≡ Some f → KeepsFault (length before + n) (before ++ letters) fault o y.fault → y.fault ≡ Some f
        still None f e k = cc
        still (Some g) f e k = k ∙ e

        some_fault : (o p : Option (FaultedInterleaving F)) → p ≡ None → KeepsFault (length before + n) (before ++ letters) fault o p → ⊥
        some_fault None None e k = k
        some_fault None (Some g) e k = cc
        some_fault (Some g) p e k = let r : Some g ≡ None = sym k ∙ e in cc

        least : (f : FaultedInterleaving F) → KeepsFault (length before + n) (before ++ letters) fault None (Some f) → IsLeastFault turn rest done state before W f
        least f k = record {
          letters = letters;
          steps = n;
          member = member;
          word = k.1;
          faults = all letters member ∙ ap (λ g. StopsAt n (Fault g)) (sym k.2);
          place = k.0;
          least = λ v p q. sorted v p;
        }

-- words that all stop are what the search is for, or are covered
module _ {S F : Type 0} (turn : S → ℕ → ℕ → StepOutcome S F) (rest : S → Ending F) (state : S) (W : List ℕ → Type 0) (n : ℕ) (why : StopReason F) (letters : List ℕ) (member : W letters) (sorted : (v : List ℕ) → W v → IsUpTo letters v) where
  pub stops-explored : (goal : Goal) (old new : SearchProgress F) → ((w : List ℕ) → W w → run turn rest old.done.items state w ≡ StopsAt n why) → IsFresh goal old.best
      → new.word.items ≡ old.word.items → new.done.items ≡ old.done.items → Keeps (length old.word.items + n) (old.word.items ++ letters) why old.best new.best
      → IsExplored turn rest goal state W old new (is_stopped goal)
  stops-explored ToEnd old new all fresh w d h = record {
    word = w;
    done = d;
    covered = stops-covered turn rest ToEnd old.done.items state W n letters member sorted old.word.items why old.best new.best all (λ e. cc) h;
  }
  stops-explored Stopped old new all fresh w d h = record {
    letters = letters;
    member = member;
    sought = subst (IsSought Stopped) (sym (all letters member)) refl;
    held = subst (λ e. IsHeld (length old.word.items) (old.word.items ++ letters) e new) (sym (all letters member))
        (subst (λ b. Keeps (length old.word.items + n) (old.word.items ++ letters) why b new.best) (fresh refl) h);
    least = λ v k s. sorted v k;
  }

module _ {S F : Type 0} (turn : S → ℕ → ℕ → StepOutcome S F) (rest : S → Ending F) (order : List ℕ → ℕ → Bool) (lengths done : List ℕ) (state : S) (b : ℕ) (fits : b < length done) where
  pub run-Next : (next : S) → turn state b (get_or done b 0) ≡ Next next → (w : List ℕ) → run turn rest done state (b ∷ w) ≡ later (run turn rest (one_more done b) next w)
  run-Next next e w = ap (λ t. after t (λ s. run turn rest (one_more done b) s w)) e

  pub run-Stop : (why : StopReason F) → turn state b (get_or done b 0) ≡ Stop why → (w : List ℕ) → run turn rest done state (b ∷ w) ≡ StopsAt 0 why
  run-Stop why e w = ap (λ t. after t (λ s. run turn rest (one_more done b) s w)) e

  -- the words behind a stop, and the run of each
  pub run-begins : (why : StopReason F) → turn state b (get_or done b 0) ≡ Stop why → (w : List ℕ) → Begins order lengths done b w → run turn rest done state w ≡ StopsAt 0 why
  run-begins why e [] k = absurd k.0
  run-begins why e (c ∷ w) k = ap (λ a. run turn rest done state (a ∷ w)) k.0 ∙ run-Stop why e w

  -- the words behind a true event
  pub Covered-Next : (goal : Goal) (before : List ℕ) (next : S) (x y : FirstFailures F) → order done b ≡ true → turn state b (get_or done b 0) ≡ Next next
      → Covered turn rest goal (one_more done b) next (before ++ b ∷ []) (Extends order lengths (one_more done b)) x y
      → Covered turn rest goal done state before (Begins order lengths done b) x y
  Covered-Next goal before next x y may e a = record {
    none_sought = none_sought;
    kept = a.kept;
    none_faults = none_faults;
    first = λ d f g. let l = a.first d f g in record {
      letters = b ∷ l.letters;
      steps = suc l.steps;
      member = (refl, Extends-cons order lengths done b fits may l.letters l.member);
      word = l.word ∙ append_assoc before (b ∷ []) l.letters;
      faults = run-Next next e l.letters ∙ ap later l.faults;
      place = omega (arith, l.place, length-append before (b ∷ []));
      least = least l.letters l.least;
    };
    grows = a.grows;
    bounds = bounds;
    reached = elim a.reached [ inl e ↦ inl e | inr p ↦ inr (further p) ];
  }
    where
      at_letter : (c : ℕ) (w : List ℕ) → c ≡ b → Extends order lengths done (c ∷ w) → Extends order lengths (one_more done b) w
      at_letter c w d k = Extends-tail order lengths done b fits w (subst (λ a. Extends order lengths done (a ∷ w)) d k)

      run-letter : (c : ℕ) (w : List ℕ) → c ≡ b → run turn rest done state (c ∷ w) ≡ later (run turn rest (one_more done b) next w)
      run-letter c w d = ap (λ a. run turn rest done state (a ∷ w)) d ∙ run-Next next e w

      none_sought : (w : List ℕ) → Begins order lengths done b w → IsSought goal (run turn rest done state w) → ⊥
      none_sought [] k f = k.0
      none_sought (c ∷ w) k f = a.none_sought w (at_letter c w k.0 k.1) (sought-later goal _ (subst (IsSought goal) (run-letter c w k.0) f))

      faults_on : (c : ℕ) (w : List ℕ) → c ≡ b → FaultsOn turn rest done state (c ∷ w) → FaultsOn turn rest (one_more done b) next w
      faults_on c w d f = let k = later-StopsAt _ f.0 (Fault f.1) (sym (run-letter c w d) ∙ f.2) in (k.steps, f.1, k.ends)

      none_faults : y.fault ≡ None → (w : List ℕ) → Begins order lengths done b w → FaultsOn turn rest done state w → ⊥
      none_faults n [] k f = k.0
      none_faults n (c ∷ w) k f = a.none_faults n w (at_letter c w k.0 k.1) (faults_on c w k.0 f)

      least : (letters : List ℕ) → ((v : List ℕ) → Extends order lengths (one_more done b) v → FaultsOn turn rest (one_more done b) next v → IsUpTo letters v)
          → (v : List ℕ) → Begins order lengths done b v → FaultsOn turn rest done state v → IsUpTo (b ∷ letters) v
      least letters h [] k f = absurd k.0
      least letters h (c ∷ v) k f = inr (sym k.0, h v (at_letter c v k.0 k.1) (faults_on c v k.0 f))

      bounds : (w : List ℕ) (n : ℕ) → Begins order lengths done b w → run turn rest done state w ≡ StopsAt n False → length before + n < reach y.furthest
      bounds [] n k f = absurd k.0
      bounds (c ∷ w) n k f = let s = later-StopsAt _ n False (sym (run-letter c w k.0) ∙ f) in
          omega (arith, a.bounds w s.steps (at_letter c w k.0 k.1) s.ends, s.more, length-append before (b ∷ []))

      false_on : (c : ℕ) (w : List ℕ) (n : ℕ) → c ≡ b → run turn rest done state (c ∷ w) ≡ StopsAt (suc n) False → run turn rest (one_more done b) next w ≡ StopsAt n False
      false_on c w n d f =
          let s = later-StopsAt _ (suc n) False (sym (run-letter c w d) ∙ f) in
          let z : s.steps ≡ n = omega (arith, s.more) in
          s.ends ∙ ap (λ k. StopsAt k False) z

      least_false : (letters : List ℕ) (n : ℕ) → ((v : List ℕ) → Extends order lengths (one_more done b) v → run turn rest (one_more done b) next v ≡ StopsAt n False → IsUpTo letters v)
          → (v : List ℕ) → Begins order lengths done b v → run turn rest done state v ≡ StopsAt (suc n) False → IsUpTo (b ∷ letters) v
      least_false letters n h [] k f = absurd k.0
      least_false letters n h (c ∷ v) k f = inr (sym k.0, h v (at_letter c v k.0 k.1) (false_on c v n k.0 f))

      further : IsFurther turn rest (one_more done b) next (before ++ b ∷ []) (Extends order lengths (one_more done b)) x.furthest y.furthest → IsFurther turn rest done state before (Begins order lengths done b) x.furthest y.furthest
      further p = let l = p.least in record {
        merge = p.merge;
        kept = p.kept;
        more = p.more;
        least = record {
          letters = b ∷ l.letters;
          steps = suc l.steps;
          member = (refl, Extends-cons order lengths done b fits may l.letters l.member);
          word = l.word ∙ append_assoc before (b ∷ []) l.letters;
          stops = run-Next next e l.letters ∙ ap later l.stops;
          place = omega (arith, l.place, length-append before (b ∷ []));
          least = least_false l.letters l.steps l.least;
        };
      }

module _ {S F : Type 0} (turn : S → ℕ → ℕ → StepOutcome S F) (rest : S → Ending F) (goal : Goal) (order : List ℕ → ℕ → Bool) (lengths done : List ℕ) (state : S) where
  -- a branch that has no command left
  pub Covered-full : (b : ℕ) (before : List ℕ) (x : FirstFailures F) → get_or lengths b 0 ≤ get_or done b 0 → Covered turn rest goal done state before (Begins order lengths done b) x x
  Covered-full b before x h = Covered-none turn rest goal done state before (Begins order lengths done b) x none
    where
      none : (w : List ℕ) → Begins order lengths done b w → ⊥
      none [] k = k.0
      none (c ∷ w) k = let p = Completes-head lengths done c w k.1.0 in let e : c ≡ b = k.0 in
          let q : get_or done b 0 < get_or lengths b 0 = subst (λ a. get_or done a 0 < get_or lengths a 0) e p in omega arith

  -- a branch whose next command may not come next
  pub Covered-closed : (b : ℕ) (before : List ℕ) (x : FirstFailures F) → order done b ≡ false → Covered turn rest goal done state before (Begins order lengths done b) x x
  Covered-closed b before x closed = Covered-none turn rest goal done state before (Begins order lengths done b) x none
    where
      none : (w : List ℕ) → Begins order lengths done b w → ⊥
      none [] k = k.0
      none (c ∷ w) k = let e : c ≡ b = k.0 in let o = k.1.1.0 in absurd (true≢false (sym (subst (λ a. order done a ≡ true) e o) ∙ closed))

  pub Covered-start : (before : List ℕ) (x : FirstFailures F) → Covered turn rest goal done state before (BeginsBelow order lengths done 0) x x
  Covered-start before x = Covered-none turn rest goal done state before (BeginsBelow order lengths done 0) x none
    where
      none : (w : List ℕ) → BeginsBelow order lengths done 0 w → ⊥
      none [] k = k.0
      none (c ∷ w) k = let e : c < 0 = k.0 in omega arith

  -- one branch more
  pub Covered-more : (b : ℕ) (before : List ℕ) (x y z : FirstFailures F)
      → Covered turn rest goal done state before (BeginsBelow order lengths done b) x y → Covered turn rest goal done state before (Begins order lengths done b) y z
      → Covered turn rest goal done state before (BeginsBelow order lengths done (b + 1)) x z
  Covered-more b before x y z p q = Covered-join turn rest goal done state before (BeginsBelow order lengths done b) (Begins order lengths done b) (BeginsBelow order lengths done (b + 1)) x y z split left right sorted p q
    where
      split : (w : List ℕ) → BeginsBelow order lengths done (b + 1) w → BeginsBelow order lengths done b w ⊎ Begins order lengths done b w
      split [] k = absurd k.0
      split (c ∷ w) k = elim (cases_lt c b) [ inl l ↦ inl (l, k.1) | inr l ↦ inr (let s : c < b + 1 = k.0 in (omega arith, k.1)) ]

      left : (w : List ℕ) → BeginsBelow order lengths done b w → BeginsBelow order lengths done (b + 1) w
      left [] k = absurd k.0
      left (c ∷ w) k = let s : c < b = k.0 in (omega arith, k.1)

      right : (w : List ℕ) → Begins order lengths done b w → BeginsBelow order lengths done (b + 1) w
      right [] k = absurd k.0
      right (c ∷ w) k = let s : c ≡ b = k.0 in (omega arith, k.1)

      sorted : (v w : List ℕ) → BeginsBelow order lengths done b v → Begins order lengths done b w → IsUpTo v w
      sorted [] w p q = tt
      sorted (a ∷ v) [] p q = q.0
      sorted (a ∷ v) (c ∷ w) p q = let s : a < b = p.0 in let t : c ≡ b = q.0 in inl (omega arith)

  -- all branches, where some command is left
  pub Covered-all : (b : ℕ) (before : List ℕ) (x y : FirstFailures F) (open_branch : ℕ) → get_or done open_branch 0 < get_or lengths open_branch 0 → length lengths ≤ b
      → Covered turn rest goal done state before (BeginsBelow order lengths done b) x y → Covered turn rest goal done state before (Extends order lengths done) x y
  Covered-all b before x y c left past p = Covered-same turn rest goal done state before (BeginsBelow order lengths done b) (Extends order lengths done) x y (λ w k. k.1) all p
    where
      all : (w : List ℕ) → Extends order lengths done w → BeginsBelow order lengths done b w
      all [] k = let e = k.0 c in absurd (omega arith)
      all (a ∷ w) k = let l = Completes-letter lengths done a w k.0 in (omega arith, k)
