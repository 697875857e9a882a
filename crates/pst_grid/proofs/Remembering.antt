-- What is remembered, and what it gives.
use Rattle.std.proofs.Common.{◌≡◌, ℕ, ◌+◌, ◌≤◌, inl, inr, List, [], ◌∷◌, ◌++◌, length, sum, Bool, true, false, Option, Some, None, refl, sym, ap, subst, ◌∙◌, arith, true≢false, ◌||◌, ◌&&◌, if◌then◌else◌, not, MatchBool}
use Rattle.std.proofs.lemmas.Slice.Eq.{bytes_eq-Decides}
use Rattle.std.specs.Str.{bytes_eq}
use Rattle.std.specs.List.{list_any}
use Rattle.pst_grid.specs.declared.steps.Ending.{Ending}
use Rattle.pst_grid.specs.declared.steps.StepOutcome.{StepOutcome}
use Rattle.pst_grid.specs.Bounds.{Each}
use Rattle.pst_grid.specs.Orders.{Extends}
use Rattle.pst_grid.specs.Covered.{Covered}
use Rattle.pst_grid.specs.Kept.{reach}
use Rattle.pst_grid.specs.Remembered.{EachFrom, IsAccounted, AreAccounted, IsRemembered}
use Rattle.pst_grid.specs.declared.position.Position.{Position}
use Rattle.pst_grid.specs.declared.search.FirstFailures.{FirstFailures}
use Rattle.pst_grid.specs.declared.search.FaultedInterleaving.{FaultedInterleaving}
use Rattle.pst_grid.specs.declared.search.Goal.{Goal}

pub Each-map : {K : Type 0} (P Q : K → Type 0) → ((k : K) → P k → Q k) → (ks : List K) → Each P ks → Each Q ks
Each-map P Q f [] h = tt
Each-map P Q f (k ∷ ks) h = (f k h.0, Each-map P Q f ks h.1)

pub Each-append : {K : Type 0} (P : K → Type 0) (ks ls : List K) → Each P ks → Each P ls → Each P (ks ++ ls)
Each-append P [] ls h j = j
Each-append P (k ∷ ks) ls h j = (h.0, Each-append P ks ls h.1 j)

pub Each-both : {K : Type 0} (P Q R : K → Type 0) → ((k : K) → P k → Q k → R k) → (ks : List K) → Each P ks → Each Q ks → Each R ks
Each-both P Q R f [] h j = tt
Each-both P Q R f (k ∷ ks) h j = (f k h.0 j.0, Each-both P Q R f ks h.1 j.1)

-- those behind others
pub Each-behind : {K : Type 0} (P : K → Type 0) (ks ls : List K) → Each P (ks ++ ls) → Each P ls
Each-behind P [] ls h = h
Each-behind P (k ∷ ks) ls h = Each-behind P ks ls h.1

-- what holds of all that are remembered holds of one of them
pub Each-remembered : {S : Type 0} (P : Position S → Type 0) (Q : Type 0) (done : List ℕ) (s : S) (ks : List (Position S))
    → ((k : Position S) → k.done ≡ done → k.state ≡ s → P k → Q) → IsRemembered done s ks → Each P ks → Q
Each-remembered P Q done s [] f r h = absurd r
Each-remembered P Q done s (k ∷ ks) f (inl r) h = f k r.0 r.1 h.0
Each-remembered P Q done s (k ∷ ks) f (inr r) h = Each-remembered P Q done s ks f r h.1

-- an equal one is among them
pub remembered-equal : {S : Type 0} (test : Position S → Bool) (done : List ℕ) (s : S) (ks : List (Position S)) → list_any test ks ≡ true
    → ((k : Position S) → test k ≡ true → (k.done ≡ done) × (k.state ≡ s)) → IsRemembered done s ks
remembered-equal test done s [] e same = absurd (true≢false (sym e))
remembered-equal test done s (k ∷ ks) e same = by (test k) refl (λ f. remembered-equal test done s ks f same)
  where
    by : (b : Bool) → test k ≡ b → (list_any test ks ≡ true → IsRemembered done s ks) → IsRemembered done s (k ∷ ks)
    by true f others = inl (same k f)
    by false f others = inr (others (sym (ap (λ c. c || list_any test ks) f) ∙ e))

module _ {S : Type 0} (P : Position S → Type 0) (depth : ℕ) where
  -- one position more, at which no more commands are done
  pub from-below : (keys new : List (Position S)) (k : Position S) → new ≡ keys ++ k ∷ [] → sum k.done ≤ depth → EachFrom depth P keys → EachFrom (depth + 1) P new
  from-below keys new k e below h =
      let Q : Position S → Type 0 = λ k. depth + 1 ≤ sum k.done → P k in
      subst (Each Q) (sym e)
      (Each-append Q keys (k ∷ []) (Each-map (λ k. depth ≤ sum k.done → P k) Q (λ k a deep. a (omega arith)) keys h) ((λ deep. absurd (omega arith)), tt))

  -- those that were there, one more, and deeper ones
  pub from-all : (keys added now : List (Position S)) (k : Position S) → now ≡ (keys ++ k ∷ []) ++ added → Each (λ k. depth + 1 ≤ sum k.done) added
      → EachFrom depth P keys → P k → EachFrom (depth + 1) P now → EachFrom depth P now
  from-all keys added now k e deep before here others =
      let Q : Position S → Type 0 = λ k. depth + 1 ≤ sum k.done → P k in
      let R : Position S → Type 0 = λ k. depth ≤ sum k.done → P k in
      let behind = Each-behind Q (keys ++ k ∷ []) added (subst (Each Q) e others) in
      subst (Each R) (sym e)
      (Each-append R (keys ++ k ∷ []) added (Each-append R keys (k ∷ []) before ((λ h. here), tt)) (Each-both (λ k. depth + 1 ≤ sum k.done) Q R (λ k l a h. a l) added deep behind))

pub and-true : (b c : Bool) → b && c ≡ true → (b ≡ true) × (c ≡ true)
and-true true c h = (refl, h)
and-true false c h = absurd (true≢false (sym h))

module _ {S : Type 0} (eq : S → S → Bool) where
  -- equal positions are the same
  pub position-same : ((a b : S) → eq a b ≡ true → a ≡ b) → (v done : List ℕ) (kept s : S) (k : Position S) → v ≡ done → kept ≡ s
      → bytes_eq v k.done && eq kept k.state ≡ true → (k.done ≡ done) × (k.state ≡ s)
  position-same law v done kept s k e f h =
      let b = and-true _ _ h in (sym ((bytes_eq-Decides v k.done).0 b.0) ∙ e, sym (law kept k.state b.1) ∙ f)

  -- what is inserted is new, or was there
  pub inserted : ((a b : S) → eq a b ≡ true → a ≡ b) → (done : List ℕ) (s : S) (keys after : List (Position S)) (v : List ℕ) (kept : S) (is_new : Bool) → v ≡ done → kept ≡ s
      → is_new ≡ not (list_any (λ k. bytes_eq v k.done && eq kept k.state) keys)
      → after ≡ (if list_any (λ k. bytes_eq v k.done && eq kept k.state) keys then keys else keys ++ record { done = v; state = kept } ∷ [])
      → MatchBool is_new (after ≡ keys ++ record { done = done; state = s } ∷ []) (IsRemembered done s keys × (after ≡ keys))
  inserted law done s keys after v kept is_new d e new is = by is_new (list_any (λ k. bytes_eq v k.done && eq kept k.state) keys) refl new is
    where
      by : (n there : Bool) → list_any (λ k. bytes_eq v k.done && eq kept k.state) keys ≡ there → n ≡ not there
          → after ≡ (if there then keys else keys ++ record { done = v; state = kept } ∷ [])
          → MatchBool n (after ≡ keys ++ record { done = done; state = s } ∷ []) (IsRemembered done s keys × (after ≡ keys))
      by true true f g h = absurd (true≢false g)
      by true false f g h = h ∙ ap (λ x. keys ++ record { done = x; state = kept } ∷ []) d ∙ ap (λ x. keys ++ record { done = done; state = x } ∷ []) e
      by false true f g h = (remembered-equal (λ k. bytes_eq v k.done && eq kept k.state) done s keys f (λ k t. position-same law v done kept s k d e t), h)
      by false false f g h = absurd (true≢false (sym g))

  -- and positions that are the same are equal
  pub position-equal : ((a : S) → eq a a ≡ true) → (k l : Position S) → k.done ≡ l.done → k.state ≡ l.state → bytes_eq k.done l.done && eq k.state l.state ≡ true
  position-equal law k l d e = ap (λ b. b && eq k.state l.state) ((bytes_eq-Decides k.done l.done).1 d) ∙ subst (λ s. eq k.state s ≡ true) e (law k.state)

module _ {S F : Type 0} (turn : S → ℕ → ℕ → StepOutcome S F) (rest : S → Ending F) (goal : Goal) (order : List ℕ → ℕ → Bool) (lengths : List ℕ) where
  -- what was covered is accounted for
  pub accounted : (done before : List ℕ) (state : S) (old new : FirstFailures F) → sum done ≡ length before → Covered turn rest goal done state before (Extends order lengths done) old new → IsAccounted turn rest goal order lengths new done state
  accounted done before state old new e c = record { none_sought = c.none_sought; none_faults = c.none_faults; bounds = λ w n k r. omega (arith, c.bounds w n k r, e) }

  -- what is accounted for is covered with no further search
  pub covered : (done before : List ℕ) (state : S) (best : FirstFailures F) → sum done ≡ length before → IsAccounted turn rest goal order lengths best done state → Covered turn rest goal done state before (Extends order lengths done) best best
  covered done before state best e a = record {
    none_sought = a.none_sought;
    kept = λ x f. f;
    none_faults = a.none_faults;
    first = λ n x f. (let j : Some x ≡ None = sym f ∙ n in cc);
    grows = omega arith;
    bounds = λ w n k r. omega (arith, a.bounds w n k r, e);
    reached = inl refl;
  }

  -- it stays so while the search goes on
  pub accounted-on : (old new : FirstFailures F) → ((x : FaultedInterleaving F) → old.fault ≡ Some x → new.fault ≡ Some x) → reach old.furthest ≤ reach new.furthest
      → (done : List ℕ) (state : S) → IsAccounted turn rest goal order lengths old done state → IsAccounted turn rest goal order lengths new done state
  accounted-on old new kept grows done state a = record {
    none_sought = a.none_sought;
    none_faults = λ n. a.none_faults (none_before n);
    bounds = λ w n k r. omega (arith, a.bounds w n k r, grows);
  }
    where
      none_before : new.fault ≡ None → old.fault ≡ None
      none_before e = by old.fault refl
        where
          by : (o : Option (FaultedInterleaving F)) → old.fault ≡ o → old.fault ≡ None
          by None k = k
          by (Some f) k = let j : Some f ≡ None = sym (kept f k) ∙ e in cc

  pub all-accounted-on : (depth : ℕ) (done before : List ℕ) (state : S) (W : List ℕ → Type 0) (old new : FirstFailures F) (keys : List (Position S)) → Covered turn rest goal done state before W old new
      → AreAccounted turn rest goal order lengths depth old keys → AreAccounted turn rest goal order lengths depth new keys
  all-accounted-on depth done before state W old new keys c h =
      Each-map (λ k. depth ≤ sum k.done → IsAccounted turn rest goal order lengths old k.done k.state) (λ k. depth ≤ sum k.done → IsAccounted turn rest goal order lengths new k.done k.state)
      (λ k a deep. accounted-on old new c.kept c.grows k.done k.state (a deep)) keys h

  -- a position that is met again
  pub met-again : (best : FirstFailures F) (keys : List (Position S)) (done before : List ℕ) (state : S) → IsRemembered done state keys → sum done ≡ length before
      → AreAccounted turn rest goal order lengths (sum done) best keys → Covered turn rest goal done state before (Extends order lengths done) best best
  met-again best keys done before state there e all =
      covered done before state best e
      (Each-remembered (λ k. sum done ≤ sum k.done → IsAccounted turn rest goal order lengths best k.done k.state) (IsAccounted turn rest goal order lengths best done state) done state keys
      (λ k d s a. subst (λ x. IsAccounted turn rest goal order lengths best x state) d (subst (λ n. IsAccounted turn rest goal order lengths best k.done n) s (a (omega (arith, ap sum d))))) there all)
