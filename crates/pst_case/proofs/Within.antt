-- What the limits of a case say of its lengths.
use Rattle.std.proofs.Common.{◌≡◌, ◌≤◌, ◌||◌, not, ℕ, nat_le, Bool, true, false, List, length, refl}
use Rattle.std.proofs.lemmas.Bool.Decides.{nat_tests}
use Rattle.std.proofs.Common.{arith}
use Rattle.pst_case.specs.Shape.{are_over_limit, over_limit, joined}
use Rattle.pst_case.specs.declared.case.Case.{Case}

limits_hold : (a b c d e : Bool) → (not a || not b || not c || not d || not e) ≡ false → (a ≡ true) × (c ≡ true) × (e ≡ true)
limits_hold true true true true true h = (refl, refl, refl)
limits_hold true true true true false h = absurd (cc)
limits_hold true true true false e h = absurd (cc)
limits_hold true true false d e h = absurd (cc)
limits_hold true false c d e h = absurd (cc)
limits_hold false b c d e h = absurd (cc)

within : (n m : ℕ) → nat_le n m ≡ true → n ≤ m
within n m h = grind (arith, nat_tests)

-- at most 64 commands in the prefix, 16 in the branches, and 8 in the suffix
pub limits-within : {C : Type 0} (prefix : List C) (branches : List (List C)) (suffix : List C) → are_over_limit prefix branches suffix ≡ false
    → (length prefix ≤ 64) × (length (joined branches) ≤ 16) × (length suffix ≤ 8)
limits-within prefix branches suffix h = let p = limits_hold _ _ _ _ _ h in (within _ _ p.0, within _ _ p.1, within _ _ p.2)

pub over_limit-within : (c : Case) → over_limit c ≡ false → (length c.prefix ≤ 64) × (length (joined c.branches) ≤ 16)
over_limit-within c h = let p = limits-within c.prefix c.branches c.suffix h in (p.0, p.1)

pub over_limit-suffix : (c : Case) → over_limit c ≡ false → length c.suffix ≤ 8
over_limit-suffix c h = (limits-within c.prefix c.branches c.suffix h).2

pub ruleset limits = (over_limit-within, over_limit-suffix)
