-- No part has another number of replies than of commands exactly where the reader accepts the numbers.
use Rattle.std.proofs.Common.{◌≡◌, ℕ, suc, ◌+◌, ◌==◌, Bool, true, false, cond, ◌&&◌, List, [], ◌∷◌, ◌++◌, length, map, Option, Some, slice_get, inl, inr, refl, sym, ap, ◌∙◌, append_assoc, arith}
use Rattle.std.specs.Option.{is_none}
use Rattle.pst_case.specs.declared.case.Case.{Case}
use Rattle.pst_case.specs.declared.case.Command.{Command}
use Rattle.pst_run_problems.specs.ItemReplies.{first_other, counts, case_counts, ArePartsOf}
use Rattle.pst_run_problems.specs.declared.command.Part.{Part}
use Rattle.pst_runs.specs.Replies.{listed, listed_at, listed_or_none, branches_count, are_counted}
use Rattle.pst_sexpr.specs.declared.form.Form.{Form}

-- whether lists have these numbers of trees
same : List Form → List ℕ → Bool
same [] [] = true
same [] (n ∷ ns) = false
same (list ∷ lists) [] = false
same (list ∷ lists) (n ∷ ns) = (length (listed list) == n) && same lists ns

at_length : {X : Type 0} (xs : List X) (y : X) (ys : List X) → slice_get (xs ++ y ∷ ys) (length xs) ≡ Some y
at_length [] y ys = refl
at_length (x ∷ xs) y ys = at_length xs y ys

next_length : {X : Type 0} (xs : List X) (y : X) → length (xs ++ y ∷ []) ≡ length xs + 1
next_length [] y = refl
next_length (x ∷ xs) y = ap suc (next_length xs y) ∙ (let e : suc (length xs + 1) ≡ suc (length xs) + 1 = omega arith in e)

test_none : (b : Bool) (n : ℕ) (o : Option ℕ) (c : Bool) → is_none o ≡ c → is_none (cond b o (Some n)) ≡ (b && c)
test_none true n o c h = h
test_none false n o c h = refl

from_here : (before lists : List Form) (parts : List Part) → length lists ≡ length parts → is_none (first_other (before ++ lists) (length before) parts) ≡ same lists (counts parts)
unfolding same
from_here before [] [] h = refl
from_here before [] (part ∷ parts) h = absurd (omega (arith, h))
from_here before (list ∷ lists) [] h = absurd (omega (arith, h))
from_here before (list ∷ lists) (part ∷ parts) h =
    let k : length lists ≡ length parts = omega (arith, h) in
    let all : (before ++ list ∷ []) ++ lists ≡ before ++ list ∷ lists = append_assoc before (list ∷ []) lists in
    let more : is_none (first_other (before ++ list ∷ lists) (length before + 1) parts) ≡ same lists (counts parts) =
    ap (λ xs. is_none (first_other xs (length before + 1) parts)) (sym all)
    ∙ ap (λ n. is_none (first_other ((before ++ list ∷ []) ++ lists) n parts)) (sym (next_length before list))
    ∙ from_here (before ++ list ∷ []) lists parts k in
    let here : listed_at (before ++ list ∷ lists) (length before) ≡ listed list = ap listed_or_none (at_length before list lists) in
    test_none (length (listed_at (before ++ list ∷ lists) (length before)) == length part.commands.now) _ _ _ more
    ∙ ap (λ xs. (length xs == length part.commands.now) && same lists (counts parts)) here

and_true : (b : Bool) → (b && true) ≡ b
and_true true = refl
and_true false = refl

and_assoc : (a b c : Bool) → (a && (b && c)) ≡ ((a && b) && c)
and_assoc true b c = refl
and_assoc false b c = refl

-- branches, and then the suffix
with_suffix : (bs : List (List Command)) (lists : List Form) (n : ℕ) → length lists ≡ length bs + 1 → same lists (map length bs ++ n ∷ []) ≡ (branches_count bs lists && (length (listed_at lists (length bs)) == n))
unfolding same
with_suffix [] [] n h = absurd (omega (arith, h))
with_suffix [] (list ∷ []) n h = and_true (length (listed list) == n)
with_suffix [] (list ∷ l ∷ ls) n h = absurd (omega (arith, h))
with_suffix (b ∷ bs) [] n h = refl
with_suffix (b ∷ bs) (list ∷ lists) n h =
    let k : length lists ≡ length bs + 1 = omega (arith, h) in
    ap (λ t. (length (listed list) == length b) && t) (with_suffix bs lists n k)
    ∙ and_assoc (length (listed list) == length b) (branches_count bs lists) _

without_suffix : (bs : List (List Command)) (lists : List Form) → length lists ≡ length bs → same lists (map length bs) ≡ (branches_count bs lists && (length (listed_at lists (length bs)) == 0))
unfolding same
without_suffix [] [] h = refl
without_suffix [] (list ∷ lists) h = absurd (omega (arith, h))
without_suffix (b ∷ bs) [] h = refl
without_suffix (b ∷ bs) (list ∷ lists) h =
    let k : length lists ≡ length bs = omega (arith, h) in
    ap (λ t. (length (listed list) == length b) && t) (without_suffix bs lists k)
    ∙ and_assoc (length (listed list) == length b) (branches_count bs lists) _

length_counts : (parts : List Part) → length (counts parts) ≡ length parts
length_counts [] = refl
length_counts (part ∷ parts) = ap suc (length_counts parts)

length_more : (bs : List (List Command)) (n : ℕ) → length (map length bs ++ n ∷ []) ≡ length bs + 1
length_more [] n = refl
length_more (b ∷ bs) n = ap suc (length_more bs n) ∙ (let e : suc (length bs + 1) ≡ suc (length bs) + 1 = omega arith in e)

length_branches : (bs : List (List Command)) → length (map length bs) ≡ length bs
length_branches [] = refl
length_branches (b ∷ bs) = ap suc (length_branches bs)

suffixed : (c : Case) (lists : List Form) → length lists ≡ length c.branches + 2 → same lists (case_counts c ++ length c.suffix ∷ []) ≡ are_counted c lists
unfolding same
suffixed c [] h = refl
suffixed c (list ∷ lists) h =
    let k : length lists ≡ length c.branches + 1 = omega (arith, h) in
    ap (λ t. (length (listed list) == length c.prefix) && t) (with_suffix c.branches lists (length c.suffix) k)
    ∙ and_assoc (length (listed list) == length c.prefix) (branches_count c.branches lists) _

unsuffixed : (c : Case) (lists : List Form) → c.suffix ≡ [] → length lists ≡ length c.branches + 1 → same lists (case_counts c) ≡ are_counted c lists
unfolding same
unsuffixed c [] e h = refl
unsuffixed c (list ∷ lists) e h =
    let k : length lists ≡ length c.branches = omega (arith, h) in
    ap (λ t. (length (listed list) == length c.prefix) && t) (without_suffix c.branches lists k)
    ∙ and_assoc (length (listed list) == length c.prefix) (branches_count c.branches lists) _
    ∙ ap (λ cs. ((length (listed list) == length c.prefix) && branches_count c.branches lists) && (length (listed_at lists (length c.branches)) == length cs)) (sym e)

pub counted : (c : Case) (lists : List Form) (parts : List Part) → length lists ≡ length parts → ArePartsOf c parts → is_none (first_other lists 0 parts) ≡ are_counted c lists
counted c lists parts h (inl e) =
    let l : length (case_counts c ++ length c.suffix ∷ []) ≡ length c.branches + 2 =
    ap suc (length_more c.branches (length c.suffix)) ∙ (let e : suc (length c.branches + 1) ≡ length c.branches + 2 = omega arith in e) in
    let k : length lists ≡ length c.branches + 2 = h ∙ sym (length_counts parts) ∙ ap length e ∙ l in
    from_here [] lists parts h ∙ ap (same lists) e ∙ suffixed c lists k
counted c lists parts h (inr e) =
    let l : length (case_counts c) ≡ length c.branches + 1 =
    ap suc (length_branches c.branches) ∙ (let e : suc (length c.branches) ≡ length c.branches + 1 = omega arith in e) in
    let k : length lists ≡ length c.branches + 1 = h ∙ sym (length_counts parts) ∙ ap length e.0 ∙ l in
    from_here [] lists parts h ∙ ap (same lists) e.0 ∙ unsuffixed c lists e.1 k
