-- The least completion.
use Rattle.std.proofs.Common.{◌≡◌, ℕ, zero, suc, ◌+◌, ◌-◌, ◌<◌, ◌≤◌, ◌⊎◌, inl, inr, List, [], ◌∷◌, ◌++◌, length, get_or, replicate, refl, sym, ap, subst, ◌∙◌, arith, add-zero, drop, append_assoc}
use Rattle.std.proofs.lemmas.Bool.{cases_lt}
use Rattle.std.proofs.lemmas.Bool.Decides.{nat_tests}
use Rattle.std.proofs.lemmas.List.{drop_more, drop_all}
use Rattle.pst_grid.specs.Completions.{Completes, fill_from}
use Rattle.pst_grid.specs.Merges.{times, IsUpTo}

-- each branch has done at most its commands
abbrev pub IsWithin : List ℕ → List ℕ → Type 0
IsWithin done lengths = (b : ℕ) → get_or done b 0 ≤ get_or lengths b 0

times-append : (c : ℕ) (v w : List ℕ) → times c (v ++ w) ≡ times c v + times c w
times-append c [] w = omega arith
times-append c (a ∷ v) w = omega (arith, times-append c v w)

times-replicate_same : (n c : ℕ) → times c (replicate n c) ≡ n
times-replicate_same zero c = refl
times-replicate_same (suc n) c = let h = times-replicate_same n c in grind (arith, nat_tests)

times-replicate_other : (n b c : ℕ) → (b ≡ c → ⊥) → times c (replicate n b) ≡ 0
times-replicate_other zero b c ne = refl
times-replicate_other (suc n) b c ne = let h = times-replicate_other n b c ne in grind (arith, nat_tests)

-- no letter below b
times-fill_below : (lengths done : List ℕ) (b c : ℕ) → c < b → times c (fill_from b lengths done) ≡ 0
times-fill_below [] done b c h = refl
times-fill_below (l ∷ lengths) [] b c h = refl
times-fill_below (l ∷ lengths) (d ∷ done) b c h =
    let i = times-fill_below lengths done (suc b) c (omega arith) in
    let o = times-replicate_other (l - d) b c (λ e. omega arith) in
    omega (arith, times-append c (replicate (l - d) b) (fill_from (suc b) lengths done))

times-fill : (lengths done : List ℕ) (b c : ℕ) → length done ≡ length lengths → IsWithin done lengths → get_or done c 0 + times (b + c) (fill_from b lengths done) ≡ get_or lengths c 0
times-fill [] [] b c e h = refl
times-fill [] (d ∷ done) b c e h = absurd (omega arith)
times-fill (l ∷ lengths) [] b c e h = absurd (omega arith)
times-fill (l ∷ lengths) (d ∷ done) b zero e h =
    let i = times-fill_below lengths done (suc b) b (omega arith) in
    let o = times-replicate_same (l - d) b in
    let k : d ≤ l = h 0 in
    rw add-zero (omega (arith, times-append b (replicate (l - d) b) (fill_from (suc b) lengths done)))
times-fill (l ∷ lengths) (d ∷ done) b (suc c) e h =
    let i = times-fill lengths done (suc b) c (omega arith) (λ k. h (suc k)) in
    let o = times-replicate_other (l - d) b (b + suc c) (λ e. omega arith) in
    let s : suc b + c ≡ b + suc c = omega arith in
    let j = subst (λ x. get_or done c 0 + times x (fill_from (suc b) lengths done) ≡ get_or lengths c 0) s i in
    omega (arith, times-append (b + suc c) (replicate (l - d) b) (fill_from (suc b) lengths done))

-- it completes
pub Completes-fill : (lengths done : List ℕ) → length done ≡ length lengths → IsWithin done lengths → Completes lengths done (fill_from 0 lengths done)
Completes-fill lengths done e h = λ c. let k = times-fill lengths done 0 c e h in let z : 0 + c ≡ c = omega arith in subst (λ x. get_or done c 0 + times x (fill_from 0 lengths done) ≡ get_or lengths c 0) z k

-- a list of letters that are b or more, so many of them b
module _ (b : ℕ) (rest : List ℕ) (Rest : List ℕ → Type 0) (rest_least : (v : List ℕ) → ((c : ℕ) → c < suc b → times c v ≡ 0) → Rest v → IsUpTo rest v)
    (Rest-tail : (a : ℕ) (v : List ℕ) → a ≡ b → Rest (a ∷ v) → Rest v) where
  replicate_least : (n : ℕ) (v : List ℕ) → times b v ≡ n → ((c : ℕ) → c < b → times c v ≡ 0) → Rest v → IsUpTo (replicate n b ++ rest) v
  replicate_least zero v e below r = rest_least v (λ c h. elim (cases_lt c b) [ inl l ↦ below c l | inr l ↦ (let q : b ≡ c = omega arith in subst (λ x. times x v ≡ 0) q e) ]) r
  replicate_least (suc n) [] e below r = cc
  replicate_least (suc n) (a ∷ v) e below r = by (cases_lt a b) (cases_lt b a) (λ t k r. replicate_least n v t k r)
    where
      by : (a < b) ⊎ (b ≤ a) → (b < a) ⊎ (a ≤ b) → (times b v ≡ n → ((c : ℕ) → c < b → times c v ≡ 0) → Rest v → IsUpTo (replicate n b ++ rest) v) → IsUpTo (replicate (suc n) b ++ rest) (a ∷ v)
      by (inl l) q again = let k = below a l in absurd (grind (arith, nat_tests))
      by (inr l) (inl q) again = inl q
      by (inr l) (inr q) again = let k : a ≡ b = omega arith in
          inr (sym k, again (grind (arith, nat_tests)) (λ c h. let j = below c h in omega arith) (Rest-tail a v k r))

fill_least_from : (lengths done : List ℕ) (b : ℕ) (v : List ℕ) → ((c : ℕ) → c < b → times c v ≡ 0) → ((c : ℕ) → get_or done c 0 + times (b + c) v ≡ get_or lengths c 0) → IsUpTo (fill_from b lengths done) v
fill_least_from [] done b v below h = tt
fill_least_from (l ∷ lengths) [] b v below h = tt
fill_least_from (l ∷ lengths) (d ∷ done) b v below h =
    replicate_least b (fill_from (suc b) lengths done) (λ w. (c : ℕ) → get_or done c 0 + times (suc b + c) w ≡ get_or lengths c 0)
    (λ w k r. fill_least_from lengths done (suc b) w k r)
    tail
    (l - d) v at_head below at_tail
  where
    at_head : times b v ≡ l - d
    at_head = let k : d + times (b + 0) v ≡ l = h 0 in let z : b + 0 ≡ b = omega arith in let j = subst (λ x. d + times x v ≡ l) z k in omega arith

    at_tail : (c : ℕ) → get_or done c 0 + times (suc b + c) v ≡ get_or lengths c 0
    at_tail c = let z : b + suc c ≡ suc b + c = omega arith in subst (λ x. get_or done c 0 + times x v ≡ get_or lengths c 0) z (h (suc c))

    tail : (a : ℕ) (w : List ℕ) → a ≡ b → ((c : ℕ) → get_or done c 0 + times (suc b + c) (a ∷ w) ≡ get_or lengths c 0) → (c : ℕ) → get_or done c 0 + times (suc b + c) w ≡ get_or lengths c 0
    tail a w e k c = let j = k c in let ne : a ≡ suc b + c → ⊥ = λ q. omega arith in grind (arith, nat_tests)

-- and no completion comes before it
pub fill_least : (lengths done v : List ℕ) → Completes lengths done v → IsUpTo (fill_from 0 lengths done) v
fill_least lengths done v h = fill_least_from lengths done 0 v (λ c k. absurd (omega arith)) (λ c. let z : c ≡ 0 + c = omega arith in subst (λ x. get_or done c 0 + times x v ≡ get_or lengths c 0) z (h c))

pub fill_more : (lengths done : List ℕ) (b : ℕ) → b < length lengths → length done ≡ length lengths
    → fill_from b (drop b lengths) (drop b done) ≡ replicate (get_or lengths b 0 - get_or done b 0) b ++ fill_from (b + 1) (drop (b + 1) lengths) (drop (b + 1) done)
fill_more lengths done b h e =
    let k : b < length done = omega arith in
    let s : suc b ≡ b + 1 = omega arith in
    ap (λ x. fill_from b x (drop b done)) (drop_more lengths b 0 h) ∙ ap (λ x. fill_from b (get_or lengths b 0 ∷ drop (b + 1) lengths) x) (drop_more done b 0 k)
    ∙ ap (λ x. replicate (get_or lengths b 0 - get_or done b 0) b ++ fill_from x (drop (b + 1) lengths) (drop (b + 1) done)) s

pub fill_all : (lengths done : List ℕ) (b : ℕ) → length lengths ≤ b → fill_from b (drop b lengths) done ≡ []
fill_all lengths done b h = ap (λ x. fill_from b x done) (drop_all b lengths h)

pub fill_push : (v rest : List ℕ) (b n k : ℕ) → n ≡ suc k → (v ++ b ∷ []) ++ (replicate k b ++ rest) ≡ v ++ (replicate n b ++ rest)
fill_push v rest b n k e = append_assoc v (b ∷ []) (replicate k b ++ rest) ∙ ap (λ x. v ++ (replicate x b ++ rest)) (sym e)
