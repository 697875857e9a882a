-- One drop more.
use Rattle.std.proofs.Common.{◌≡◌, ℕ, ◌+◌, Bool, true, false, not, if◌then◌else◌, List, [], ◌∷◌, ◌++◌, map, filter, refl, sym, ap, ◌∙◌, arith}
use Rattle.std.specs.List.{range_with_len}
use Rattle.std.proofs.lemmas.List.{append-nil, map-append, map-id}
use Rattle.std.proofs.lemmas.List.Elements.{filter-append}
use Rattle.std.proofs.lemmas.List.FromFn.{map-range_with_len_more}
use Rattle.pst_case.specs.declared.case.Case.{Case}
use Rattle.pst_shrink.specs.Candidates.{is_used, without, drops}

range_with_len-more : (n : ℕ) → range_with_len 1 (n + 1) ≡ range_with_len 1 n ++ (n + 1) ∷ []
range_with_len-more n =
    let z : 1 + n ≡ n + 1 = omega arith in
    sym (map-id (range_with_len 1 (n + 1))) ∙ map-range_with_len_more (λ (k : ℕ). k) 1 n (n + 1) z
    ∙ ap (λ ks. ks ++ (n + 1) ∷ []) (map-id (range_with_len 1 n))

module _ (c : Case) where
  abbrev kept : List ℕ → List ℕ
  kept = filter (λ n. not (is_used n c))

  abbrev drop_each : List ℕ → List Case
  drop_each = map (λ n. without n c)

  one_drop : (b : Bool) (n : ℕ) → b ≡ is_used n c
      → drop_each (kept (n ∷ [])) ≡ (if b then [] else without n c ∷ [])
  one_drop true n is = rw (← is) refl
  one_drop false n is = rw (← is) refl

  -- after one command more, the drops have gained that one's
  pub drops-next : (n : ℕ) (b : Bool) → b ≡ is_used (n + 1) c
      → drops c (n + 1) ≡ drops c n ++ (if b then [] else without (n + 1) c ∷ [])
  drops-next n b is =
      ap (λ ks. drop_each (kept ks)) (range_with_len-more n)
      ∙ ap drop_each (filter-append (λ n. not (is_used n c)) (range_with_len 1 n) ((n + 1) ∷ []))
      ∙ map-append (λ n. without n c) (kept (range_with_len 1 n)) (kept ((n + 1) ∷ []))
      ∙ ap (λ ds. drops c n ++ ds) (one_drop b (n + 1) is)

  -- a command that is used is not dropped
  pub used : (n : ℕ) (b : Bool) (all : List Case) → b ≡ is_used (n + 1) c → b ≡ true
      → all ≡ drops c n → all ≡ drops c (n + 1)
  used n true all h is so = so ∙ (sym (drops-next n true h ∙ append-nil (drops c n)))
  used n false all h is so = absurd (cc)

  -- a command that is not used is
  pub dropped : (n : ℕ) (b : Bool) (all more : List Case) (d : Case) → b ≡ is_used (n + 1) c → b ≡ false
      → all ≡ drops c n → d ≡ without (n + 1) c → more ≡ all ++ d ∷ [] → more ≡ drops c (n + 1)
  dropped n true all more d h is so one grown = absurd (cc)
  dropped n false all more d h is so one grown =
      let e : all ++ d ∷ [] ≡ drops c n ++ without (n + 1) c ∷ [] = rw (so, one) refl in
      grown ∙ e ∙ sym (drops-next n false h)
