-- Numbers that rise.
use Rattle.std.proofs.Common.{ℕ, zero, suc, ◌≤◌, ◌<◌, List, [], ◌∷◌, ◌++◌, subst, append_assoc, arith}
use Rattle.pst_reasons.specs.Reasons.{AreRising, numbers_to}

-- above a lower bound
lower : (low high last : ℕ) (xs : List ℕ) → low ≤ high → AreRising high last xs → AreRising low last xs
lower low high last [] le r = tt
lower low high last (n ∷ xs) le r = let a = r.0 in (omega (arith, le, a), r.1, r.2)

-- without one of them
without_one : (low last : ℕ) (front core : List ℕ) (n : ℕ) → AreRising low last (front ++ n ∷ core) → AreRising low last (front ++ core)
without_one low last [] core n r = let a = r.0 in lower low n last core (omega (arith, a)) r.2
without_one low last (x ∷ front) core n r = (r.0, r.1, without_one x last front core n r.2)

pub kept_rising : (last : ℕ) (front core : List ℕ) (n : ℕ) → AreRising 0 last ((front ++ n ∷ []) ++ core) → AreRising 0 last (front ++ n ∷ core)
kept_rising last front core n = subst (AreRising 0 last) (append_assoc front (n ∷ []) core)

pub left_rising : (last : ℕ) (front core : List ℕ) (n : ℕ) → AreRising 0 last ((front ++ n ∷ []) ++ core) → AreRising 0 last (front ++ core)
left_rising last front core n r = without_one 0 last front core n (kept_rising last front core n r)

-- a greater one behind them
one_more : (low middle last : ℕ) (xs : List ℕ) → low ≤ middle → middle < last → AreRising low middle xs → AreRising low last (xs ++ last ∷ [])
one_more low middle last [] le lt r = (omega (arith, le, lt), omega arith, tt)
one_more low middle last (x ∷ xs) le lt r = let a = r.1 in (r.0, omega (arith, a, lt), one_more x middle last xs a lt r.2)

pub numbers_rising : (last : ℕ) → AreRising 0 last (numbers_to last)
numbers_rising zero = tt
numbers_rising (suc last) = one_more 0 last (suc last) (numbers_to last) (omega arith) (omega arith) (numbers_rising last)
