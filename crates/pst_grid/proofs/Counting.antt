-- How many places there are.
use Rattle.std.proofs.Common.{◌≡◌, ℕ, zero, suc, ◌+◌, ◌*◌, ◌<◌, ◌≤◌, ◌⊎◌, inl, inr, List, [], ◌∷◌, ◌++◌, length, map, get_or, refl, sym, ap, subst, ◌∙◌, arith, length-append}
use Rattle.std.proofs.lemmas.Bool.{cases_lt}
use Rattle.std.proofs.lemmas.List.{length-map}
use Rattle.std.proofs.Math.Nat.{mul-le-mul_left}
use Rattle.pst_grid.specs.Bounds.{Each, HasNoRepeats, Leads, IsReached, IsBounded}
use Rattle.pst_grid.specs.Completions.{IsAt}
use Rattle.pst_grid.specs.Laws.{product, NeverChanges, MakesFewSteps}
use Rattle.pst_grid.specs.Merges.{one_more, none_done}
use Rattle.pst_grid.specs.declared.steps.StepOutcome.{StepOutcome}
use Rattle.pst_grid.specs.declared.steps.StepOutcome.TheVariants.{Next}
use Rattle.pst_grid.proofs.Answering.{IsAt-none}
use Rattle.pst_grid.proofs.Remembering.{Each-map}
use Rattle.pst_grid.proofs.Placing.{IsAt-more}

module _ {K : Type 0} where
  -- it is one of the list
  abbrev Member : K → List K → Type 0
  Member k [] = ⊥
  Member k (l ∷ ls) = (k ≡ l) ⊎ Member k ls

  Member-left : (k : K) (ks ls : List K) → Member k ks → Member k (ks ++ ls)
  Member-left k [] ls m = absurd m
  Member-left k (x ∷ ks) ls (inl e) = inl e
  Member-left k (x ∷ ks) ls (inr m) = inr (Member-left k ks ls m)

  Member-right : (k : K) (ks ls : List K) → Member k ls → Member k (ks ++ ls)
  Member-right k [] ls m = m
  Member-right k (x ∷ ks) ls m = inr (Member-right k ks ls m)

  -- the list without one of its members
  without : (k : K) (ls : List K) → Member k ls → List K
  without k [] m = []
  without k (l ∷ ls) (inl e) = ls
  without k (l ∷ ls) (inr m) = l ∷ without k ls m

  length-without : (k : K) (ls : List K) (m : Member k ls) → length ls ≡ length (without k ls m) + 1
  unfolding without
  length-without k [] m = absurd m
  length-without k (l ∷ ls) (inl e) = omega arith
  length-without k (l ∷ ls) (inr m) = omega (arith, length-without k ls m)

  Member-without : (k x : K) (ls : List K) (m : Member k ls) → (k ≡ x → ⊥) → Member x ls → Member x (without k ls m)
  unfolding without
  Member-without k x [] m ne n = absurd m
  Member-without k x (l ∷ ls) (inl e) ne (inl f) = absurd (ne (e ∙ sym f))
  Member-without k x (l ∷ ls) (inl e) ne (inr n) = n
  Member-without k x (l ∷ ls) (inr m) ne (inl f) = inl f
  Member-without k x (l ∷ ls) (inr m) ne (inr n) = inr (Member-without k x ls m ne n)

  all-without : (k : K) (ls xs : List K) (m : Member k ls) → Each (λ x. k ≡ x → ⊥) xs → Each (λ x. Member x ls) xs
      → Each (λ x. Member x (without k ls m)) xs
  all-without k ls [] m h j = tt
  all-without k ls (x ∷ xs) m h j = (Member-without k x ls m h.0 j.0, all-without k ls xs m h.1 j.1)

  -- members of a list, of which no two are the same, are at most as many as it has
  members-few : (xs ls : List K) → HasNoRepeats xs → Each (λ x. Member x ls) xs → length xs ≤ length ls
  members-few [] ls h j = omega arith
  members-few (x ∷ xs) ls h j =
      let i = members-few xs (without x ls j.0) h.1 (all-without x ls xs j.0 h.0 j.1) in
      omega (arith, length-without x ls j.0)

Member-map : {K L : Type 0} (f : K → L) (k : K) (ks : List K) → Member k ks → Member (f k) (map f ks)
Member-map f k [] m = absurd m
Member-map f k (x ∷ ks) (inl e) = inl (ap f e)
Member-map f k (x ∷ ks) (inr m) = inr (Member-map f k ks m)

-- each number up to n before each of the lists
rows : ℕ → List (List ℕ) → List (List ℕ)
rows zero tails = map (λ d. 0 ∷ d) tails
rows (suc n) tails = map (λ d. suc n ∷ d) tails ++ rows n tails

length-rows : (n : ℕ) (tails : List (List ℕ)) → length (rows n tails) ≡ suc n * length tails
unfolding rows
length-rows zero tails = length-map tails (λ d. 0 ∷ d) ∙ (omega arith)
length-rows (suc n) tails =
    let e = length-append (map (λ d. suc n ∷ d) tails) (rows n tails) in
    let f = length-map tails (λ d. suc n ∷ d) in
    let i = length-rows n tails in
    let s : suc (suc n) * length tails ≡ length tails + suc n * length tails = omega arith in
    omega arith

Member-rows : (n d : ℕ) (ds : List ℕ) (tails : List (List ℕ)) → d ≤ n → Member ds tails → Member (d ∷ ds) (rows n tails)
unfolding rows
Member-rows zero d ds tails h m =
    let e : 0 ≡ d = omega arith in
    subst (λ x. Member (x ∷ ds) (map (λ t. 0 ∷ t) tails)) e (Member-map (λ t. 0 ∷ t) ds tails m)
Member-rows (suc n) d ds tails h m = by (cases_lt d (suc n)) (λ k. Member-rows n d ds tails k m)
  where
    by : (d < suc n) ⊎ (suc n ≤ d) → (d ≤ n → Member (d ∷ ds) (rows n tails))
        → Member (d ∷ ds) (map (λ t. suc n ∷ t) tails ++ rows n tails)
    by (inl k) lower = Member-right (d ∷ ds) (map (λ t. suc n ∷ t) tails) (rows n tails) (lower (omega arith))
    by (inr k) lower =
        let e : suc n ≡ d = omega arith in
        Member-left (d ∷ ds) (map (λ t. suc n ∷ t) tails) (rows n tails)
        (subst (λ x. Member (x ∷ ds) (map (λ t. suc n ∷ t) tails)) e (Member-map (λ t. suc n ∷ t) ds tails m))

-- all places within the lengths
all_places : List ℕ → List (List ℕ)
all_places [] = [] ∷ []
all_places (l ∷ lengths) = rows l (all_places lengths)

length-all_places : (lengths : List ℕ) → length (all_places lengths) ≡ product (map suc lengths)
unfolding all_places
length-all_places [] = refl
length-all_places (l ∷ lengths) =
    length-rows l (all_places lengths) ∙ ap (λ n. suc l * n) (length-all_places lengths)

Member-all_places : (lengths done : List ℕ) → length done ≡ length lengths → ((b : ℕ) → get_or done b 0 ≤ get_or lengths b 0)
    → Member done (all_places lengths)
unfolding all_places
Member-all_places [] [] e h = inl refl
Member-all_places [] (d ∷ done) e h = absurd (omega arith)
Member-all_places (l ∷ lengths) [] e h = absurd (omega arith)
Member-all_places (l ∷ lengths) (d ∷ done) e h =
    Member-rows l d done (all_places lengths) (h 0) (Member-all_places lengths done (omega arith) (λ b. h (suc b)))

module _ {S F : Type 0} (turn : S → ℕ → ℕ → StepOutcome S F) (lengths : List ℕ) (start : S) (stays : NeverChanges turn start) where
  -- what is reached lies within the lengths, in the state of the start
  reached-within : (done : List ℕ) (s : S) (u there : List ℕ) (t : S) → IsAt lengths done → s ≡ start
      → Leads turn lengths done s u there t → IsAt lengths there × (t ≡ start)
  reached-within done s [] there t at e l = (subst (IsAt lengths) l.0 at, sym l.1 ∙ e)
  reached-within done s (b ∷ u) there t at e l =
      let same = stays b (get_or done b 0) l.1.0 (subst (λ x. turn x b (get_or done b 0) ≡ Next l.1.0) e l.1.1) in
      reached-within (one_more done b) l.1.0 u there t (IsAt-more lengths done b at l.0) same l.1.2

  -- the place, in the state of the start
  abbrev here : List ℕ → List ℕ × S
  here d = (d, start)

  member-of : (p : List ℕ × S) → IsReached turn lengths start p → Member p (map here (all_places lengths))
  member-of p r =
      let w = reached-within (none_done lengths) start r.0 p.0 p.1 (IsAt-none lengths) refl r.1 in
      let at = w.0 in
      let same : here p.0 ≡ p = ap (λ s. pair p.0 s) (sym w.1) in
      subst (λ q. Member q (map here (all_places lengths))) same
      (Member-map here p.0 (all_places lengths) (Member-all_places lengths p.0 at.branches at.within))
    where
      pair : List ℕ → S → List ℕ × S
      pair d s = (d, s)

  few-places : (places : List (List ℕ × S)) → HasNoRepeats places → Each (IsReached turn lengths start) places
      → length places ≤ product (map suc lengths)
  few-places places unique reached =
      let m = Each-map (IsReached turn lengths start) (λ p. Member p (map here (all_places lengths))) member-of places reached in
      let n = members-few places (map here (all_places lengths)) unique m in
      let e : length (map here (all_places lengths)) ≡ product (map suc lengths) =
      length-map (all_places lengths) here ∙ length-all_places lengths in
      omega arith

  end-of : (s : S) → IsReached turn lengths start (lengths, s) → Member s (start ∷ [])
  end-of s r =
      let w = reached-within (none_done lengths) start r.0 lengths s (IsAt-none lengths) refl r.1 in
      inl w.1

  one-end : (ends : List S) → HasNoRepeats ends → Each (λ s. IsReached turn lengths start (lengths, s)) ends → length ends ≤ 1
  one-end ends unique reached =
      members-few ends (start ∷ []) unique
      (Each-map (λ s. IsReached turn lengths start (lengths, s)) (λ s. Member s (start ∷ [])) end-of ends reached)

  few : (most steps : ℕ) → IsBounded turn lengths most start steps → steps ≤ length lengths * product (map suc lengths) + most
  few most steps h =
      let a = mul-le-mul_left (length lengths) (few-places h.places h.reached.0 h.reached.1) in
      let b = mul-le-mul_left most (one-end h.ends h.ended.0 h.ended.1) in
      let one : most * 1 ≡ most = omega arith in
      let w = h.within in
      omega arith

pub few-steps : {S F : Type 0} (turn : S → ℕ → ℕ → StepOutcome S F) → MakesFewSteps turn
few-steps turn lengths most start steps stays h = few turn lengths start stays most steps h
