-- How many steps are made for the positions that are remembered.
use Rattle.std.proofs.Common.{◌≡◌, ℕ, ◌+◌, ◌*◌, ◌<◌, ◌≤◌, List, [], ◌∷◌, ◌++◌, length, sum, get_or, Bool, true, false, if◌then◌else◌, refl, sym, ap, subst, ◌∙◌, arith, true≢false, append_assoc, length-append, map}
use Rattle.std.specs.List.{IsDistinct, AllByRecursion}
use Rattle.std.proofs.lemmas.List.{length-map}
use Rattle.std.proofs.lemmas.Slice.Eq.{bytes_eq-Decides}
use Rattle.std.specs.Str.{bytes_eq}
use Rattle.pst_grid.specs.Bounds.{HasNoRepeats, IsBounded, IsReached, Each}
use Rattle.pst_grid.specs.Merges.{one_more, none_done}
use Rattle.pst_grid.specs.Remembered.{IsReachedFrom, IsGrown, ends_of}
use Rattle.pst_grid.specs.declared.position.Position.{Position}
use Rattle.pst_grid.specs.declared.steps.StepOutcome.{StepOutcome}
use Rattle.pst_grid.specs.declared.steps.StepOutcome.TheVariants.{Next}
use Rattle.pst_grid.proofs.Remembering.{Each-map, Each-append}

append-nil : {K : Type 0} (xs : List K) → xs ++ [] ≡ xs
append-nil [] = refl
append-nil (x ∷ xs) = ap (λ ys. x ∷ ys) (append-nil xs)

module _ {S : Type 0} (lengths : List ℕ) where
  ends-append : (ks ls : List (Position S)) → ends_of lengths (ks ++ ls) ≡ ends_of lengths ks ++ ends_of lengths ls
  ends-append [] ls = refl
  ends-append (k ∷ ks) ls = by (bytes_eq k.done lengths) (ends-append ks ls)
    where
      by : (b : Bool) → ends_of lengths (ks ++ ls) ≡ ends_of lengths ks ++ ends_of lengths ls
          → (if b then k.state ∷ ends_of lengths (ks ++ ls) else ends_of lengths (ks ++ ls))
          ≡ (if b then k.state ∷ ends_of lengths ks else ends_of lengths ks) ++ ends_of lengths ls
      by true h = ap (λ ts. k.state ∷ ts) h
      by false h = h

  -- as many ends as both have, each times the most steps of the rest
  ends-more : (most : ℕ) (ks ls : List (Position S)) → most * length (ends_of lengths (ks ++ ls))
      ≡ most * length (ends_of lengths ks) + most * length (ends_of lengths ls)
  ends-more most ks ls =
      ap (λ n. most * n) (ap length (ends-append ks ls) ∙ length-append (ends_of lengths ks) (ends_of lengths ls)) ∙ (omega arith)

  -- one end is one
  end-once : (k : Position S) → k.done ≡ lengths → length (ends_of lengths (k ∷ [])) ≡ 1
  end-once k e = ap (λ b. length (if b then k.state ∷ [] else [])) ((bytes_eq-Decides k.done lengths).1 e)

module _ {S F : Type 0} (turn : S → ℕ → ℕ → StepOutcome S F) (lengths : List ℕ) (most : ℕ) where
  module _ (n : ℕ) (done : List ℕ) (state : S) where
    pub grown-none : (keys : List (Position S)) (i s t : ℕ) → t ≤ s + i → IsGrown turn lengths most i n done state keys keys s t
    grown-none keys i s t h = record { added = []; keys = sym (append-nil keys); reached = tt; deep = tt; steps = omega arith }

    pub grown-more : (i : ℕ) (a b c : List (Position S)) (s t u : ℕ) → IsGrown turn lengths most i n done state a b s t → IsGrown turn lengths most 1 n done state b c t u
        → IsGrown turn lengths most (i + 1) n done state a c s u
    grown-more i a b c s t u p q = record {
      added = p.added ++ q.added;
      keys = q.keys ∙ ap (λ ks. ks ++ q.added) p.keys ∙ append_assoc a p.added q.added;
      reached = Each-append (IsReachedFrom turn lengths most done state) p.added q.added p.reached q.reached;
      deep = Each-append (λ k. n ≤ sum k.done) p.added q.added p.deep q.deep;
      steps = let e = length-append p.added q.added in let x = p.steps in let y = q.steps in
          let z : length lengths * length (p.added ++ q.added) ≡ length lengths * length p.added + length lengths * length q.added = ap (λ k. length lengths * k) e ∙ (omega arith) in
          let r = ends-more lengths most p.added q.added in omega arith;
    }

  -- behind a true event
  pub grown-behind : (done : List ℕ) (state : S) (b : ℕ) (next : S) (there : List ℕ) (old new : List (Position S)) (s t u : ℕ) → get_or done b 0 < get_or lengths b 0 → turn state b (get_or done b 0) ≡ Next next
      → there ≡ one_more done b → sum (one_more done b) ≡ sum done + 1 → t ≤ s + 1
      → IsGrown turn lengths most 0 (sum there) there next old new t u → IsGrown turn lengths most 1 (sum done + 1) done state old new s u
  grown-behind done state b next there old new s t u left e d more h q =
      let p = subst (λ x. IsGrown turn lengths most 0 (sum x) x next old new t u) d q in
      record {
        added = p.added;
        keys = p.keys;
        reached = Each-map (IsReachedFrom turn lengths most (one_more done b) next) (IsReachedFrom turn lengths most done state) (λ k r. (b ∷ r.0, (left, (next, e, r.1)))) p.added p.reached;
        deep = Each-map (λ k. sum (one_more done b) ≤ sum k.done) (λ k. sum done + 1 ≤ sum k.done) (λ k r. omega arith) p.added p.deep;
        steps = let x = p.steps in omega arith;
      }

  -- a new position, and those behind it
  pub grown-first : (done : List ℕ) (state : S) (i : ℕ) (old now new : List (Position S)) (s t : ℕ) → i ≤ length lengths
      → now ≡ old ++ record { done = done; state = state } ∷ [] → IsGrown turn lengths most i (sum done + 1) done state now new s t
      → IsGrown turn lengths most 0 (sum done) done state old new s t
  grown-first done state i old now new s t h is p = record {
    added = k ∷ p.added;
    keys = p.keys ∙ ap (λ ks. ks ++ p.added) is ∙ append_assoc old (k ∷ []) p.added;
    reached = (([], (refl, refl)), p.reached);
    deep = (omega arith, Each-map (λ l. sum done + 1 ≤ sum l.done) (λ l. sum done ≤ sum l.done) (λ l r. omega arith) p.added p.deep);
    steps = let x = p.steps in let r = ends-more lengths most (k ∷ []) p.added in
        let z : length lengths * length (k ∷ p.added) ≡ length lengths + length lengths * length p.added = omega arith in
        omega arith;
  }
    where
      k : Position S
      k = record { done = done; state = state }

  -- a position at which all branches have ended, which is new
  pub grown-end : (done : List ℕ) (state : S) (old new : List (Position S)) (s t : ℕ) → done ≡ lengths → t ≤ s + most
      → new ≡ old ++ record { done = done; state = state } ∷ [] → IsGrown turn lengths most 0 (sum done) done state old new s t
  grown-end done state old new s t all h is = record {
    added = k ∷ [];
    keys = is;
    reached = (([], (refl, refl)), tt);
    deep = (omega arith, tt);
    steps =
        let one = ap (λ n. most * n) (end-once lengths k all) in
        let same : most * 1 ≡ most = omega arith in
        omega arith;
  }
    where
      k : Position S
      k = record { done = done; state = state }

-- the place and the state
abbrev pub seen_as : {S : Type 0} → Position S → List ℕ × S
seen_as k = (k.done, k.state)

module _ {S : Type 0} (eq : Position S → Position S → Bool) (law : (a b : Position S) → a.done ≡ b.done → a.state ≡ b.state → eq a b ≡ true) where
  others-differ : (k : Position S) (ks : List (Position S)) → AllByRecursion (λ l. eq k l ≡ false) ks → Each (λ p. seen_as k ≡ p → ⊥) (map seen_as ks)
  others-differ k [] h = tt
  others-differ k (l ∷ ks) h = ((λ e. true≢false (sym (law k l (ap (λ p. p.0) e) (ap (λ p. p.1) e)) ∙ h.0)), others-differ k ks h.1)

  pub no-repeats : (ks : List (Position S)) → IsDistinct eq ks → HasNoRepeats (map seen_as ks)
  unfolding IsDistinct
  no-repeats [] h = tt
  no-repeats (k ∷ ks) h = (others-differ k ks h.0, no-repeats ks h.1)

module _ {S : Type 0} (eq : Position S → Position S → Bool)
    (law : (a b : Position S) → a.done ≡ b.done → a.state ≡ b.state → eq a b ≡ true) (lengths : List ℕ) where
  ends-differ : (k : Position S) (ks : List (Position S)) → k.done ≡ lengths
      → AllByRecursion (λ l. eq k l ≡ false) ks → Each (λ s. k.state ≡ s → ⊥) (ends_of lengths ks)
  ends-differ k [] e h = tt
  ends-differ k (l ∷ ks) e h = by (bytes_eq l.done lengths) refl h.0 (ends-differ k ks e h.1)
    where
      by : (b : Bool) → bytes_eq l.done lengths ≡ b → eq k l ≡ false → Each (λ s. k.state ≡ s → ⊥) (ends_of lengths ks)
          → Each (λ s. k.state ≡ s → ⊥) (if b then l.state ∷ ends_of lengths ks else ends_of lengths ks)
      by true f n r =
          ((λ g. true≢false (sym (law k l (e ∙ sym ((bytes_eq-Decides l.done lengths).0 f)) g) ∙ n)), r)
      by false f n r = r

  pub ends-distinct : (ks : List (Position S)) → IsDistinct eq ks → HasNoRepeats (ends_of lengths ks)
  unfolding IsDistinct
  ends-distinct [] h = tt
  ends-distinct (k ∷ ks) h = by (bytes_eq k.done lengths) refl h.0 (ends-distinct ks h.1)
    where
      by : (b : Bool) → bytes_eq k.done lengths ≡ b → AllByRecursion (λ l. eq k l ≡ false) ks → HasNoRepeats (ends_of lengths ks)
          → HasNoRepeats (if b then k.state ∷ ends_of lengths ks else ends_of lengths ks)
      by true f n r = (ends-differ k ks ((bytes_eq-Decides k.done lengths).0 f) n, r)
      by false f n r = r

module _ {S : Type 0} (P : List ℕ × S → Type 0) where
  Each-seen : (ks : List (Position S)) → Each (λ k. P (seen_as k)) ks → Each P (map seen_as ks)
  Each-seen [] h = tt
  Each-seen (k ∷ ks) h = (h.0, Each-seen ks h.1)

  Each-end : (lengths : List ℕ) (ks : List (Position S)) → Each (λ k. P (seen_as k)) ks
      → Each (λ s. P (lengths, s)) (ends_of lengths ks)
  Each-end lengths [] h = tt
  Each-end lengths (k ∷ ks) h = by (bytes_eq k.done lengths) refl h.0 (Each-end lengths ks h.1)
    where
      by : (b : Bool) → bytes_eq k.done lengths ≡ b → P (seen_as k) → Each (λ s. P (lengths, s)) (ends_of lengths ks)
          → Each (λ s. P (lengths, s)) (if b then k.state ∷ ends_of lengths ks else ends_of lengths ks)
      by true f p r = (subst (λ d. P (d, k.state)) ((bytes_eq-Decides k.done lengths).0 f) p, r)
      by false f p r = r

module _ {S F : Type 0} (turn : S → ℕ → ℕ → StepOutcome S F) (lengths : List ℕ) (most : ℕ) where
  pub bounded : (done : List ℕ) (start state : S) (old new : List (Position S)) (s t : ℕ) (eq : Position S → Position S → Bool)
      → ((a b : Position S) → a.done ≡ b.done → a.state ≡ b.state → eq a b ≡ true) → IsDistinct eq new
      → done ≡ none_done lengths → state ≡ start → old ≡ [] → s ≡ 0
      → IsGrown turn lengths most 0 (sum done) done state old new s t → IsBounded turn lengths most start t
  bounded done start state old new s t eq law distinct d e none zero_steps p =
      let keys : new ≡ p.added = p.keys ∙ ap (λ ks. ks ++ p.added) none in
      let reached = subst (λ n. Each (IsReachedFrom turn lengths most (none_done lengths) n) p.added) e
      (subst (λ x. Each (IsReachedFrom turn lengths most x state) p.added) d p.reached) in
      let unique = subst (IsDistinct eq) keys distinct in
      record {
        places = map seen_as p.added;
        reached = (no-repeats eq law p.added unique, Each-seen (IsReached turn lengths start) p.added reached);
        ends = ends_of lengths p.added;
        ended = (ends-distinct eq law lengths p.added unique, Each-end (IsReached turn lengths start) lengths p.added reached);
        within = (let x = p.steps in let y = length-map p.added seen_as in let z = ap (λ n. length lengths * n) y in omega arith);
      }
