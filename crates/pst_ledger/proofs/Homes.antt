-- Ends that lie at home, where one slot changes.
use Rattle.std.proofs.Common.{◌≡◌, ◌≢◌, ℕ, eqb, List, [], ◌∷◌, ◌++◌, set, sym, ◌∙◌, subst, arith}
use mathlib.Core.Option.{Option}
use Rattle.atomic_table.proofs.Lists.{set_else}
use Rattle.pst_ledger.specs.declared.entry.Entry.{Entry}
use Rattle.pst_ledger.specs.Count.{one_if, times, keys}
use Rattle.pst_ledger.specs.Rule.{AtHome}
use Rattle.pst_ledger.proofs.Totals.{one-same}

module _ {R : Type 0} where
  pub home-append : (homes : List (Option (Entry R))) (l m : List (ℕ × Entry R)) → AtHome homes l → AtHome homes m → AtHome homes (l ++ m)
  home-append homes [] m h k = k
  home-append homes (x ∷ l) m h k = (h.0, home-append homes l m h.1 k)

  pub home-front : (homes : List (Option (Entry R))) (l m : List (ℕ × Entry R)) → AtHome homes (l ++ m) → AtHome homes l
  home-front homes [] m h = tt
  home-front homes (x ∷ l) m h = (h.0, home-front homes l m h.1)

  pub home-back : (homes : List (Option (Entry R))) (l m : List (ℕ × Entry R)) → AtHome homes (l ++ m) → AtHome homes m
  home-back homes [] m h = h
  home-back homes (x ∷ l) m h = home-back homes l m h.1

  -- a slot changes that none of the ends is for
  pub home-set : (homes : List (Option (Entry R))) (k : ℕ) (new : Option (Entry R)) (l : List (ℕ × Entry R)) → times k (keys l) ≡ 0 → AtHome homes l → AtHome (set homes k new) l
  home-set homes k new [] z h = tt
  home-set homes k new (x ∷ l) z h = (set_else homes k x.0 new apart ∙ h.0, home-set homes k new l (omega arith) h.1)
    where
      apart : x.0 ≢ k
      apart e = let o : one_if (eqb k x.0) ≡ 1 = subst (λ (y : ℕ). one_if (eqb k y) ≡ 1) (sym e) (one-same k) in omega arith
