-- A candidate weighs less than its case.
use Rattle.std.proofs.Common.{◌≡◌, ℕ, zero, suc, ◌+◌, ◌<◌, ◌≤◌, if◌then◌else◌, ◌==◌, List, [], ◌∷◌, ◌++◌, map, length, All, refl, sym, subst, inl, inr, arith, length-append}
use Rattle.std.proofs.lemmas.List.{length-map}
use Rattle.std.proofs.lemmas.List.Elements.{All-append, All-nil, All-cons}
use Rattle.std.proofs.lemmas.Bool.{cond_both, eqb-false, cases_lt}
use Rattle.pst_shrink.specs.Number.{renumber_command, numbers_by}
use Rattle.pst_shrink.specs.declared.candidate.Renumbering.TheVariants.{Without, Moved}
use Rattle.pst_case.specs.declared.case.Command.{Command}
use Rattle.pst_case.specs.declared.case.Case.{Case}
use Rattle.pst_shrink.specs.Candidates.{is_used, others, branch_others, first_of_branches, first_of_suffix, without, drops, moved, moves}
use Rattle.pst_case.specs.Shape.{commands_of, joined}
use Rattle.pst_shrink.proofs.Counting.{length-joined-cons, length-commands_of}
use Rattle.pst_shrink.proofs.Dropping.{drops-next}
use Rattle.pst_shrink.specs.Weight.{weight, CandidatesAreLesser}

-- at most all commands are left
others_within : (n first : ℕ) (cs : List Command) → length (others n first cs) ≤ length cs
others_within n first [] = omega arith
others_within n first (c ∷ cs) =
    let h : length (others n (first + 1) cs) ≤ length cs = others_within n (first + 1) cs in
    cond_both (first == n) (others n (first + 1) cs) (c ∷ others n (first + 1) cs) (λ r. length r ≤ length (c ∷ cs))
    (λ e. omega arith) (λ e. omega arith)

-- one command less is left where the number is one of theirs
others_fewer : (n first : ℕ) (cs : List Command)
    → first ≤ n → n < first + length cs → length (others n first cs) + 1 ≤ length cs
others_fewer n first [] above below = absurd (omega arith)
others_fewer n first (c ∷ cs) above below =
    cond_both (first == n) (others n (first + 1) cs) (c ∷ others n (first + 1) cs) (λ r. length r + 1 ≤ length (c ∷ cs))
    (λ e. omega (arith, others_within n (first + 1) cs))
    (λ e. let ne : first ≡ n → ⊥ = eqb-false first n e in
    let h : length (others n (first + 1) cs) + 1 ≤ length cs =
    others_fewer n (first + 1) cs (omega arith) (omega arith) in
    omega arith)

branches_within : (n first : ℕ) (bs : List (List Command))
    → length (joined (branch_others n first bs)) ≤ length (joined bs)
branches_within n first [] = omega arith
branches_within n first (b ∷ bs) =
    simp length-joined-cons (omega (arith, others_within n first b, branches_within n (first + length b) bs))

branches_fewer : (n first : ℕ) (bs : List (List Command)) → first ≤ n → n < first + length (joined bs)
    → length (joined (branch_others n first bs)) + 1 ≤ length (joined bs)
branches_fewer n first [] above below = absurd (omega arith)
branches_fewer n first (b ∷ bs) above below =
    let below' : n < first + (length b + length (joined bs)) = simp length-joined-cons at below in
    elim (cases_lt n (first + length b)) [
      | inl here ↦
          simp length-joined-cons
          (omega (arith, others_fewer n first b above here, branches_within n (first + length b) bs))
      | inr there ↦
          let h : length (joined (branch_others n (first + length b) bs)) + 1 ≤ length (joined bs) =
          branches_fewer n (first + length b) bs there (omega arith) in
          simp length-joined-cons (omega (arith, others_within n first b))
    ]

renumbered_length : (by : List ℕ) (bs : List (List Command))
    → length (joined (map (map (renumber_command by)) bs)) ≡ length (joined bs)
renumbered_length by [] = refl
renumbered_length by (b ∷ bs) =
    simp length-joined-cons (omega (arith, length-map b (renumber_command by), renumbered_length by bs))

abbrev IsLesser : Case → Case → Type 0
IsLesser c d = weight d < weight c

without_is_lesser : (c : Case) (n : ℕ) → 1 ≤ n → n ≤ length (commands_of c) → IsLesser c (without n c)
without_is_lesser c n least most =
    let count : length (commands_of c) ≡ length c.prefix + length (joined c.branches) + length c.suffix =
    length-commands_of c in
    let by : List ℕ = numbers_by (Without n) (length (commands_of c)) in
    let p : length (map (renumber_command by) (others n 1 c.prefix)) ≡ length (others n 1 c.prefix) =
    length-map _ _ in
    let b : length (joined (map (map (renumber_command by)) (branch_others n (first_of_branches c) c.branches)))
    ≡ length (joined (branch_others n (first_of_branches c) c.branches)) =
    renumbered_length by (branch_others n (first_of_branches c) c.branches) in
    let s : length (map (renumber_command by) (others n (first_of_suffix c) c.suffix)) ≡ length (others n (first_of_suffix c) c.suffix) =
    length-map _ _ in
    let prefix_within : length (others n 1 c.prefix) ≤ length c.prefix = others_within n 1 c.prefix in
    let between : length (joined (branch_others n (first_of_branches c) c.branches)) ≤ length (joined c.branches) =
    branches_within n (first_of_branches c) c.branches in
    let suffix_within : length (others n (first_of_suffix c) c.suffix) ≤ length c.suffix =
    others_within n (first_of_suffix c) c.suffix in
    elim (cases_lt n (first_of_branches c)) [
      | inl here ↦ omega (arith, others_fewer n 1 c.prefix least (omega arith))
      | inr there ↦ elim (cases_lt n (first_of_suffix c)) [
        | inl here ↦ omega (arith, branches_fewer n (first_of_branches c) c.branches there (omega arith))
        | inr last ↦ omega (arith, others_fewer n (first_of_suffix c) c.suffix last (omega arith))
      ]
    ]

moved_is_lesser : (c : Case) (n : ℕ) (x : Command)
    → first_of_branches c ≤ n → n < first_of_branches c + length (joined c.branches)
    → IsLesser c (moved n x c)
moved_is_lesser c n x least most =
    let by : List ℕ = numbers_by (Moved n (first_of_branches c)) (length (commands_of c)) in
    let p : length (map (renumber_command by) (c.prefix ++ x ∷ [])) ≡ length (c.prefix ++ x ∷ []) =
    length-map _ _ in
    let q : length (c.prefix ++ x ∷ []) ≡ length c.prefix + length (x ∷ []) =
    length-append c.prefix (x ∷ []) in
    let b : length (joined (map (map (renumber_command by)) (branch_others n (first_of_branches c) c.branches)))
    ≡ length (joined (branch_others n (first_of_branches c) c.branches)) =
    renumbered_length by (branch_others n (first_of_branches c) c.branches) in
    let s : length (map (renumber_command by) c.suffix) ≡ length c.suffix = length-map _ _ in
    omega (arith, branches_fewer n (first_of_branches c) c.branches least most)

drops_are_lesser : (c : Case) (n : ℕ) → n ≤ length (commands_of c) → All (IsLesser c) (drops c n)
drops_are_lesser c zero most = All-nil (IsLesser c)
drops_are_lesser c (suc n) most =
    let more : n + 1 ≡ suc n = omega arith in
    let one : IsLesser c (without (n + 1) c) = without_is_lesser c (n + 1) (omega arith) (omega arith) in
    let all : All (IsLesser c) (drops c n ++ (if is_used (n + 1) c then [] else without (n + 1) c ∷ [])) =
    All-append (IsLesser c) _ _ (drops_are_lesser c n (omega arith))
    (cond_both (is_used (n + 1) c) [] (without (n + 1) c ∷ []) (All (IsLesser c))
    (λ _. All-nil (IsLesser c))
    (λ _. All-cons (IsLesser c) (without (n + 1) c) [] one (All-nil (IsLesser c)))) in
    subst (λ k. All (IsLesser c) (drops c k)) more
    (subst (All (IsLesser c)) (sym (drops-next c n (is_used (n + 1) c) refl)) all)

moves_are_lesser : (c : Case) (first : ℕ) (bs : List (List Command)) → first_of_branches c ≤ first
    → first + length (joined bs) ≤ first_of_branches c + length (joined c.branches)
    → All (IsLesser c) (moves c first bs)
moves_are_lesser c first [] least most = All-nil (IsLesser c)
moves_are_lesser c first ([] ∷ bs) least most = moves_are_lesser c first bs least (omega arith)
moves_are_lesser c first ((x ∷ xs) ∷ bs) least most =
    let most' : first + (length (x ∷ xs) + length (joined bs)) ≤ first_of_branches c + length (joined c.branches) =
    simp length-joined-cons at most in
    All-cons (IsLesser c) _ _ (moved_is_lesser c first x least (omega arith))
    (moves_are_lesser c (first + length (x ∷ xs)) bs (omega arith) (omega arith))

pub lesser : CandidatesAreLesser
lesser c = All-append (IsLesser c) _ _ (drops_are_lesser c (length (commands_of c)) (omega arith))
    (moves_are_lesser c (first_of_branches c) c.branches (omega arith) (omega arith))
