-- What is spelled whole is read whole.
use Rattle.std.proofs.Common.{◌≡◌, ℕ, ◌+◌, ◌&&◌, ◌||◌, not, nat_le, Bool, List, [], ◌∷◌, ◌++◌, length, map, Option, Some, None, refl, sym, ap, ◌∙◌}
use Rattle.std.specs.Prelude.{if◌then◌else◌}
use Rattle.std.specs.List.{list_all}
use Rattle.std.proofs.lemmas.List.{length-map, map-append}
use Rattle.pst_case.specs.Shape as shape
use Rattle.pst_case.specs.Shape.{IsShaped, joined, or_else, shape_fault}
use Rattle.pst_case.specs.declared.case.Case.{Case}
use Rattle.pst_case.specs.declared.case.Command.{Command}
use Rattle.pst_case.specs.declared.shaping.CaseFault.{CaseFault}
use Rattle.pst_case.specs.declared.shaping.CaseFaultKind.TheVariants.{OverLimit}
use Rattle.pst_model.specs.declared.model.Source.{Source}
use Rattle.pst_runs.proofs.Limits.{not_over}
use Rattle.pst_runs.specs.Reading.{readable_part, readable_case, part_unread, branches_unread, case_unread, over_limit, first_of, case_fault}
use Rattle.pst_runs.proofs.CaseAgain.{whole_case}
use Rattle.pst_runs.proofs.CommandAgain.{whole_part}

readable_whole : (cs : List Command) → readable_part (whole_part cs) ≡ cs
readable_whole [] = refl
readable_whole (c ∷ cs) = ap (λ l. c ∷ l) (readable_whole cs)

readable_branches : (bs : List (List Command)) → map readable_part (map whole_part bs) ≡ bs
readable_branches [] = refl
readable_branches (b ∷ bs) = ap (λ l. l ∷ map readable_part (map whole_part bs)) (readable_whole b) ∙ ap (λ l. b ∷ l) (readable_branches bs)

pub readable_is : (c : Case) → readable_case (whole_case c) ≡ c
readable_is c =
    let case : List Command → List (List Command) → List Command → Case = λ p bs s. record { prefix = p; branches = bs; suffix = s } in
    let branches = map readable_part (map whole_part c.branches) in
    let suffix = readable_part (whole_part c.suffix) in
    ap (λ p. case p branches suffix) (readable_whole c.prefix)
    ∙ ap (λ bs. case c.prefix bs suffix) (readable_branches c.branches)
    ∙ ap (case c.prefix c.branches) (readable_whole c.suffix)

all_read : (number : ℕ) (cs : List Command) → part_unread number (whole_part cs) ≡ None
all_read number [] = refl
all_read number (c ∷ cs) = all_read (number + 1) cs

branches_read : (before : ℕ) (bs : List (List Command)) → branches_unread before (map whole_part bs) ≡ None
branches_read before [] = refl
branches_read before (b ∷ bs) =
    let rest = branches_unread (before + length (whole_part b)) (map whole_part bs) in
    ap (λ o. or_else o rest) (all_read (before + 1) b) ∙ branches_read (before + length (whole_part b)) bs

case_read : (c : Case) → case_unread (whole_case c) ≡ None
case_read c =
    let bs = map whole_part c.branches in
    let before = length (whole_part c.prefix) + length (joined bs) in
    let suffix = part_unread (before + 1) (whole_part c.suffix) in
    ap (λ o. or_else o (or_else (branches_unread (length (whole_part c.prefix)) bs) suffix)) (all_read 1 c.prefix)
    ∙ ap (λ o. or_else o suffix) (branches_read (length (whole_part c.prefix)) c.branches)
    ∙ all_read (before + 1) c.suffix

joined_whole : (bs : List (List Command)) → joined (map whole_part bs) ≡ whole_part (joined bs)
joined_whole [] = refl
joined_whole (b ∷ bs) = ap (λ l. whole_part b ++ l) (joined_whole bs) ∙ sym (map-append _ b (joined bs))

-- ---- the limits

short_whole : (bs : List (List Command)) → list_all (λ b. nat_le (length b) 8) (map whole_part bs) ≡ list_all (λ b. nat_le (length b) 8) bs
short_whole [] = refl
short_whole (b ∷ bs) =
    ap (λ n. nat_le n 8 && list_all (λ b. nat_le (length b) 8) (map whole_part bs)) (length-map b _)
    ∙ ap (λ x. nat_le (length b) 8 && x) (short_whole bs)

limits_whole : (c : Case) → over_limit (whole_case c) ≡ shape.over_limit c
limits_whole c =
    let limits : ℕ → Bool → ℕ → ℕ → ℕ → Bool = λ prefix short together branches suffix.
    not (nat_le prefix 64) || not short || not (nat_le together 16) || not (nat_le 2 branches && nat_le branches 4) || not (nat_le suffix 8) in
    let short = list_all (λ b. nat_le (length b) 8) (map whole_part c.branches) in
    let together = length (joined (map whole_part c.branches)) in
    let branches = length (map whole_part c.branches) in
    let suffix = length (whole_part c.suffix) in
    ap (λ n. limits n short together branches suffix) (length-map c.prefix _)
    ∙ ap (λ b. limits (length c.prefix) b together branches suffix) (short_whole c.branches)
    ∙ ap (λ n. limits (length c.prefix) (list_all (λ b. nat_le (length b) 8) c.branches) n branches suffix)
    (ap length (joined_whole c.branches) ∙ length-map (joined c.branches) _)
    ∙ ap (λ n. limits (length c.prefix) (list_all (λ b. nat_le (length b) 8) c.branches) (length (joined c.branches)) n suffix)
    (length-map c.branches whole_part)
    ∙ ap (λ n. limits (length c.prefix) (list_all (λ b. nat_le (length b) 8) c.branches) (length (joined c.branches)) (length c.branches) n)
    (length-map c.suffix _)

-- a shaped case that is spelled whole has no fault
pub no_fault : (m : Source) (c : Case) → IsShaped m c → case_fault m (whole_case c) ≡ None
no_fault m c s =
    let over : Option CaseFault = Some (record { kind = OverLimit; command = 0 }) in
    let faults = first_of (case_unread (whole_case c)) (shape_fault m (readable_case (whole_case c))) in
    ap (λ b. if b then over else faults) (limits_whole c ∙ not_over m c s)
    ∙ ap (λ o. first_of o (shape_fault m (readable_case (whole_case c)))) (case_read c)
    ∙ ap (shape_fault m) (readable_is c)
    ∙ s
