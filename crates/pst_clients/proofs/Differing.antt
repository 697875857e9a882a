-- The drives that differ are all drives.
use Rattle.std.proofs.Common.{◌≡◌, ℕ, ◌<◌, ◌≤◌, ◌+◌, ◌⊎◌, min, length, inl, inr, All, List, [], ◌∷◌, ◌++◌, Option, Some, None, is_some, IfSome, Bool, false, not, true≢false, ap, slice_get, sym, subst, ◌∙◌, ap₂, refl, arith, lt_trans, lt-suc_self}
use Rattle.std.specs.Prelude.{Contains}
use Rattle.std.proofs.lemmas.Bool.{cases_lt}
use Rattle.std.proofs.lemmas.List.Elements.{All-contains, All-head, All-nil, All-push, All-tail, All-weaker, Contains-append_left, Contains-push}
use Rattle.std.proofs.lemmas.Option.{slice_get_within}
use Rattle.pst_clients.specs.Bursting.{AreAllDrives, AreZipped, IsAlike}
use Rattle.pst_clients.specs.declared.burst.BurstAnswer.{BurstAnswer}
use Rattle.pst_system.specs.declared.burst.BurstDrive.{BurstDrive}
use Rattle.pst_system.specs.declared.burst.MadeCall.{MadeCall}

some_same : {A : Type 0} (x y : A) → Some x ≡ Some y → x ≡ y
some_same x y e = cc

-- what is known of what an option holds that is not none
pub found : {A : Type 0} {P : A → Type 0} (o : Option A) (none : Bool) → is_some o ≡ not none → none ≡ false → IfSome o P
    → (x : A) × P x
found None none some e h = absurd (true≢false (sym (some ∙ ap not e)))
found (Some x) none some e h = (x, h)

-- drives that are alike have the same calls
pub zipped_alike : (k l : ℕ) (answers : List BurstAnswer) (branches : List (List MadeCall)) → All (IsAlike k l) answers
    → AreZipped l answers branches → AreZipped k answers branches
zipped_alike k l [] [] all z = z
zipped_alike k l [] (b ∷ bs) all z = absurd z
zipped_alike k l (a ∷ rest) [] all z = absurd z
zipped_alike k l (a ∷ rest) (b ∷ bs) all z =
    let own : IsAlike k l a = All-head (IsAlike k l) a rest all in
    let same : z.0.0 ≡ own.0 = some_same z.0.0 own.0 (sym z.0.1 ∙ own.2) in (
      (own.0, own.1, subst (λ p. slice_get a.lists.items p ≡ Some b) same z.0.2),
      zipped_alike k l rest bs (All-tail (IsAlike k l) a rest all) z.1,
    )

-- a drive has one list of calls from each client
zipped_same : (k : ℕ) (answers : List BurstAnswer) (xs ys : List (List MadeCall)) → AreZipped k answers xs
    → AreZipped k answers ys → xs ≡ ys
zipped_same k [] [] [] x y = refl
zipped_same k [] [] (b ∷ bs) x y = absurd y
zipped_same k [] (b ∷ bs) ys x y = absurd x
zipped_same k (a ∷ rest) [] ys x y = absurd x
zipped_same k (a ∷ rest) (b ∷ bs) [] x y = absurd y
zipped_same k (a ∷ rest) (b ∷ bs) (c ∷ cs) x y =
    let place : x.0.0 ≡ y.0.0 = some_same x.0.0 y.0.0 (sym x.0.1 ∙ y.0.1) in
    let at : slice_get a.lists.items y.0.0 ≡ Some b = subst (λ p. slice_get a.lists.items p ≡ Some b) place x.0.2 in
    ap₂ (λ z zs. z ∷ zs) (some_same b c (sym at ∙ y.0.2)) (zipped_same k rest bs cs x.1 y.1)

-- a drive that all clients made is among those that each made
pub below_first : (k : ℕ) (a : BurstAnswer) (rest : List BurstAnswer) (n : ℕ)
    → ((branches : List (List MadeCall)) → AreZipped k rest branches → k < n)
    → (branches : List (List MadeCall)) → AreZipped k (a ∷ rest) branches → k < min (length a.places.items) n
below_first k a rest n later [] z = absurd z
below_first k a rest n later (b ∷ bs) z =
    let own = slice_get_within a.places.items k z.0.0 z.0.1 in
    let others = later bs z.1 in
    omega (arith, own, others)

-- the drives up to a number are those up to a greater one, if all drives are below the first
pub up_to : (answers : List BurstAnswer) (count most : ℕ) (drives : List BurstDrive) → AreAllDrives answers count drives
    → ((k : ℕ) (branches : List (List MadeCall)) → k < most → AreZipped k answers branches → k < count)
    → AreAllDrives answers most drives
up_to answers count most drives h below = record {
  zipped = h.zipped;
  complete = λ k branches less z. h.complete k branches (below k branches less z) z;
}

-- the drives below a number are made of these, and the numbers of the first ones are these
pub record AreMadeBelow (answers : List BurstAnswer) (n : ℕ) (drives : List BurstDrive) (firsts : List ℕ) : Type 0 where
  pub zipped : All (λ d. (k : ℕ) × AreZipped k answers d.branches) drives
  pub made : (k : ℕ) → k < n → (d : BurstDrive) × Contains drives d × AreZipped k answers d.branches
  pub below : All (λ first. first < n) firsts

module _ (answers : List BurstAnswer) where
  pub none_made : AreMadeBelow answers 0 [] []
  none_made = record {
    zipped = All-nil (λ d. (k : ℕ) × AreZipped k answers d.branches);
    made = λ k less. absurd (less_than_none k less);
    below = All-nil (λ first. first < 0);
  }
    where
      less_than_none : (k : ℕ) → k < 0 → ⊥
      less_than_none k less = omega (arith, less)

  module _ (n : ℕ) (drives : List BurstDrive) (firsts : List ℕ) (h : AreMadeBelow answers n drives firsts) where
    or_last : (more : List BurstDrive) → ((d : BurstDrive) → Contains drives d → Contains more d)
        → ((d : BurstDrive) × Contains more d × AreZipped n answers d.branches)
        → (k : ℕ) → k < n + 1 → (d : BurstDrive) × Contains more d × AreZipped k answers d.branches
    or_last more kept last k less = by (cases_lt k n)
      where
        by : (k < n) ⊎ (n ≤ k) → (d : BurstDrive) × Contains more d × AreZipped k answers d.branches
        by (inl earlier) = let found = h.made k earlier in (found.0, kept found.0 found.1, found.2)
        by (inr late) =
            let e : n ≡ k = omega (arith, late, less) in
            (last.0, last.1, subst (λ m. AreZipped m answers last.0.branches) e last.2)

    still_below : All (λ first. first < n + 1) firsts
    still_below = All-weaker (λ first. first < n) (λ first. first < n + 1) (λ first less. omega (arith, less)) firsts h.below

    pub with_drive : (d : BurstDrive) → AreZipped n answers d.branches
        → AreMadeBelow answers (n + 1) (drives ++ d ∷ []) (firsts ++ n ∷ [])
    with_drive d z = record {
      zipped = All-push (λ d. (k : ℕ) × AreZipped k answers d.branches) drives d h.zipped (n, z);
      made = or_last (drives ++ d ∷ []) (λ e c. Contains-append_left drives (d ∷ []) e c) (d, Contains-push drives d, z);
      below = All-push (λ first. first < n + 1) firsts n still_below (omega arith);
    }

    pub with_alike : (first : ℕ) → Contains firsts first → All (IsAlike n first) answers
        → AreMadeBelow answers (n + 1) drives firsts
    with_alike first among all =
        let found = h.made first (All-contains (λ f. f < n) firsts first h.below among) in
        record {
          zipped = h.zipped;
          made = or_last drives (λ e c. c)
              (found.0, found.1, zipped_alike n first answers found.0.branches all found.2);
          below = still_below;
        }

    pub all_drives : AreAllDrives answers n drives
    all_drives = record {
      zipped = h.zipped;
      complete = λ k branches less z.
          let found = h.made k less in
          (found.0, found.1, zipped_same k answers found.0.branches branches found.2 z);
    }
