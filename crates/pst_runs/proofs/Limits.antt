-- A shaped case is within its limits.
use Rattle.std.proofs.Common.{◌≡◌, ◌+◌, ◌≤◌, false, inl, inr, length, arith}
use Rattle.std.proofs.lemmas.Bool.{cases_Bool}
use Rattle.pst_case.proofs.Within.{limits-within}
use Rattle.pst_case.specs.Shape.{IsShaped, shape_fault, over_limit, before_suffix, joined}
use Rattle.pst_case.specs.declared.case.Case.{Case}
use Rattle.pst_model.specs.declared.model.Source.{Source}
use Rattle.pst_runs.specs.Reading as spelled
use Rattle.pst_runs.specs.declared.commands.SpelledCase.{SpelledCase}

pub not_over : (m : Source) (c : Case) → IsShaped m c → over_limit c ≡ false
unfolding shape_fault
not_over m c h = elim (cases_Bool (over_limit c)) [
  | inl s ↦ let e = rw s at h in absurd (cc)
  | inr s ↦ s
]

-- at most 64 commands in the prefix, 16 in the branches, and 8 in the suffix
pub shaped-within : (m : Source) (c : Case) → IsShaped m c → before_suffix c + length c.suffix ≤ 88
shaped-within m c h =
    let o = not_over m c h in
    let w = limits-within c.prefix c.branches c.suffix o in
    let p = w.0 in
    let q = w.1 in
    let s = w.2 in
    omega arith

pub ruleset limits = (shaped-within)

-- ---- a case as it is spelled

pub spelled-within : (c : SpelledCase) → spelled.over_limit c ≡ false → length c.prefix + length (joined c.branches) + length c.suffix ≤ 88
spelled-within c h =
    let w = limits-within c.prefix c.branches c.suffix h in
    let p = w.0 in
    let q = w.1 in
    let s = w.2 in
    omega arith

pub ruleset spelled_limits = (spelled-within)
