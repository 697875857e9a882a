-- The free numbers of the core are those from the next one on.
use Rattle.std.proofs.Common.{◌≡◌, ℕ, zero, suc, ◌+◌, ◌<◌, ◌≤◌, List, [], ◌∷◌, length, set, refl, ap, ◌∙◌, subst, arith, Option, Some, None}
use Rattle.std.specs.Prelude.{slice_get, replicate}
use Rattle.pst_ledger.specs.declared.entry.Entry.{Entry}
use Rattle.pst_ledger.specs.declared.book.Spot.{Spot}
use Rattle.pst_ledger.specs.declared.book.Spot.TheVariants.{Free, Holder, Ended}
use Rattle.pst_ledger.specs.Core.{one_later, FreeFrom, least_free}

abbrev more : Option ℕ → Option ℕ
more o = elim o as (λ _. Option ℕ) [ None ↦ None | Some k ↦ Some (k + 1) ]

next : (n : ℕ) → Some (n + 1) ≡ Some (suc n)
next n = ap Some (let e : n + 1 ≡ suc n = omega arith in e)

module _ {R : Type 0} where
  pub ff-least : (n : ℕ) (xs : List (Spot R)) → FreeFrom n xs → n < length xs → least_free xs ≡ Some n
  ff-least zero [] h lt = absurd (omega arith)
  ff-least zero (Free ∷ xs) h lt = refl
  ff-least zero (Holder s ∷ xs) h lt = absurd h
  ff-least zero (Ended s e ∷ xs) h lt = absurd h
  ff-least (suc n) [] h lt = absurd h
  ff-least (suc n) (Free ∷ xs) h lt = absurd h
  ff-least (suc n) (Holder s ∷ xs) h lt = ap one_later (ff-least n xs h (omega arith)) ∙ next n
  ff-least (suc n) (Ended s e ∷ xs) h lt = ap one_later (ff-least n xs h (omega arith)) ∙ next n

  pub ff-none : (n : ℕ) (xs : List (Spot R)) → FreeFrom n xs → length xs ≤ n → least_free xs ≡ None
  ff-none zero [] h le = refl
  ff-none zero (Free ∷ xs) h le = absurd (omega arith)
  ff-none zero (Holder s ∷ xs) h le = absurd h
  ff-none zero (Ended s e ∷ xs) h le = absurd h
  ff-none (suc n) [] h le = absurd h
  ff-none (suc n) (Free ∷ xs) h le = absurd h
  ff-none (suc n) (Holder s ∷ xs) h le = ap one_later (ff-none n xs h (omega arith))
  ff-none (suc n) (Ended s e ∷ xs) h le = ap one_later (ff-none n xs h (omega arith))

  ff-claim' : (n : ℕ) (xs : List (Spot R)) (s : ℕ) → FreeFrom n xs → n < length xs → FreeFrom (suc n) (set xs n (Holder s))
  ff-claim' zero [] s h lt = absurd (omega arith)
  ff-claim' zero (Free ∷ xs) s h lt = h
  ff-claim' zero (Holder t ∷ xs) s h lt = absurd h
  ff-claim' zero (Ended t e ∷ xs) s h lt = absurd h
  ff-claim' (suc n) [] s h lt = absurd h
  ff-claim' (suc n) (Free ∷ xs) s h lt = absurd h
  ff-claim' (suc n) (Holder t ∷ xs) s h lt = ff-claim' n xs s h (omega arith)
  ff-claim' (suc n) (Ended t e ∷ xs) s h lt = ff-claim' n xs s h (omega arith)

  pub ff-claim : (n : ℕ) (xs : List (Spot R)) (s : ℕ) → FreeFrom n xs → n < length xs → FreeFrom (n + 1) (set xs n (Holder s))
  ff-claim n xs s h lt = subst (λ (k : ℕ). FreeFrom k (set xs n (Holder s))) (let e : suc n ≡ n + 1 = omega arith in e) (ff-claim' n xs s h lt)

  pub ff-end : (n k s t : ℕ) (e : Entry R) (xs : List (Spot R)) → FreeFrom n xs → slice_get xs k ≡ Some (Holder t) → FreeFrom n (set xs k (Ended s e))
  ff-end zero k s t e [] h q = tt
  ff-end zero zero s t e (Free ∷ xs) h q = absurd (no q)
    where
      no : (let a : Option (Spot R) = Some Free in let b : Option (Spot R) = Some (Holder t) in a ≡ b) → ⊥
      no q = cc
  ff-end zero (suc k) s t e (Free ∷ xs) h q = ff-end zero k s t e xs h q
  ff-end zero k s t e (Holder u ∷ xs) h q = absurd h
  ff-end zero k s t e (Ended u d ∷ xs) h q = absurd h
  ff-end (suc n) k s t e [] h q = absurd h
  ff-end (suc n) k s t e (Free ∷ xs) h q = absurd h
  ff-end (suc n) zero s t e (Holder u ∷ xs) h q = h
  ff-end (suc n) (suc k) s t e (Holder u ∷ xs) h q = ff-end n k s t e xs h q
  ff-end (suc n) zero s t e (Ended u d ∷ xs) h q = h
  ff-end (suc n) (suc k) s t e (Ended u d ∷ xs) h q = ff-end n k s t e xs h q

pub ff-open : (R : Type 0) (n : ℕ) → FreeFrom {R = R} 0 (replicate n Free)
ff-open R zero = tt
ff-open R (suc n) = ff-open R n
