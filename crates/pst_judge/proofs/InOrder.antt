-- Verdicts over the same interleavings, over all, and over those in an order.
use Rattle.std.proofs.Common.{◌≡◌, ℕ, Bool, List, [], ◌∷◌, ◌++◌, Option, Some, None, refl}
use Rattle.pst_case.specs.Recorded.{recorded}
use Rattle.pst_case.specs.declared.case.Case.{Case}
use Rattle.pst_case.specs.declared.history.History.{History}
use Rattle.pst_eval.specs.declared.callbacks.FaultPlace.{FaultPlace}
use Rattle.pst_grid.specs.Merges.{IsMerge, IsLeast, none_done, one_more}
use Rattle.pst_grid.specs.Orders.{any_order, IsInOrder, IsMergeInOrder}
use Rattle.pst_judge.proofs.FromSearch.{first_in_order}
use Rattle.pst_judge.specs.InOrder.{IsJudgedAmong, IsVerdictOfAmong, IsVerdictAmong, IsFurthestAmong, IsFaultingAmong, IsInterleavingAmong, IsRunInOrder, IsVerdictInOrderAsking, IsInterleavingInOrder}
use Rattle.pst_judge.specs.Interleaving.{IsInterleaving}
use Rattle.pst_judge.specs.OrderLaws.{IsExplained, AnyOrderIsNone, OrderedIsExplained, SomeIsInOrder}
use Rattle.pst_judge.specs.Replay.{Asking, post_asked, branch_lengths}
use Rattle.pst_judge.specs.Verdict.{first_broken, IsJudgedAsking, IsVerdictAsking, IsVerdictOf, IsVerdictOfAsking, IsJudged}
use Rattle.pst_judge.specs.declared.judgement.Verdict.{Verdict}
use Rattle.pst_judge.specs.declared.judgement.Verdict.TheVariants.{Explained, Faulted, Unexplained, Broken}
use Rattle.pst_model.specs.declared.model.Source.{Source}

in_any_order : (done w : List ℕ) → IsInOrder any_order done w
in_any_order done [] = tt
in_any_order done (b ∷ w) = (refl, in_any_order (one_more done b) w)

-- each interleaving is in the order in which every branch is always open
pub merge_in_any_order : (lengths w : List ℕ) → IsMerge lengths w → IsMergeInOrder any_order lengths w
merge_in_any_order lengths w k = (k, in_any_order (none_done lengths) w)

module _ (m : Source) (asked : Asking) (c : Case) (h : History) where
  -- the same interleavings by another name
  module _ (V W : List ℕ → Type 0) (to : (w : List ℕ) → V w → W w) (from : (w : List ℕ) → W w → V w) where
    least : (P : List ℕ → Type 0) (w : List ℕ) → IsLeast (λ v. V v × P v) w → IsLeast (λ v. W v × P v) w
    least P w k = ((to w k.0.0, k.0.1), λ v e. k.1 v (from v e.0, e.1))

    same_judged : (v : Verdict) → IsJudgedAmong m asked c h V v → IsJudgedAmong m asked c h W v
    same_judged (Explained word) k = least _ word.items k
    same_judged (Faulted place) k = (λ v e. k.0 v (from v e.0, e.1), (k.1.0, least _ k.1.0 k.1.1, k.1.2))
    same_judged (Unexplained far) k = (
      λ v e. k.0 v (from v e.0, e.1),
      λ v e. k.1 v (from v e.0, e.1),
      (k.2.0, (to k.2.0 k.2.1.0, k.2.1.1)),
      λ v n e. k.3 v n (from v e.0, e.1),
    )
    same_judged (Broken number) k = k

    pub same_verdict : (v : Verdict) → IsVerdictAmong m asked c h V v → IsVerdictAmong m asked c h W v
    same_verdict v k = at (first_broken 1 (recorded h)) k
      where
        at : (o : Option ℕ) → IsVerdictOfAmong m asked c h V o v → IsVerdictOfAmong m asked c h W o v
        at (Some number) j = j
        at None j = same_judged v j

    same_furthest : (far : ℕ) (word : List ℕ) → IsFurthestAmong m asked c h V far word → IsFurthestAmong m asked c h W far word
    same_furthest far word k = (
      (k.0.0, least _ k.0.0 k.0.1, k.0.2),
      ((k.1.0.0, to (word ++ k.1.0.0) k.1.0.1), λ rest e. k.1.1 rest (from (word ++ rest) e)),
    )

    same_faulting : (place : FaultPlace) (word : List ℕ) → IsFaultingAmong m asked c h V place word → IsFaultingAmong m asked c h W place word
    same_faulting place word k = (k.0, k.1, least _ k.0 k.2, k.3, k.4)

    pub same_interleaving : (v : Verdict) (letters : List ℕ) → IsInterleavingAmong m asked c h V v letters → IsInterleavingAmong m asked c h W v letters
    same_interleaving (Explained word) letters k = k
    same_interleaving (Faulted place) letters k = same_faulting place letters k
    same_interleaving (Unexplained far) letters k = same_furthest far letters k
    same_interleaving (Broken number) letters k = k

  -- ---- over all interleavings

  to_judged : (v : Verdict) → IsJudgedAmong m asked c h (IsMerge (branch_lengths c)) v → IsJudgedAsking m asked c h v
  to_judged (Explained word) k = k
  to_judged (Faulted place) k = k
  to_judged (Unexplained far) k = k
  to_judged (Broken number) k = k

  from_judged : (v : Verdict) → IsJudgedAsking m asked c h v → IsJudgedAmong m asked c h (IsMerge (branch_lengths c)) v
  from_judged (Explained word) k = k
  from_judged (Faulted place) k = k
  from_judged (Unexplained far) k = k
  from_judged (Broken number) k = k

  to_verdict : (v : Verdict) → IsVerdictAmong m asked c h (IsMerge (branch_lengths c)) v → IsVerdictAsking m asked c h v
  to_verdict v k = at (first_broken 1 (recorded h)) k
    where
      at : (o : Option ℕ) → IsVerdictOfAmong m asked c h (IsMerge (branch_lengths c)) o v → IsVerdictOfAsking m asked c h o v
      at (Some number) j = j
      at None j = to_judged v j

  from_verdict : (v : Verdict) → IsVerdictAsking m asked c h v → IsVerdictAmong m asked c h (IsMerge (branch_lengths c)) v
  from_verdict v k = at (first_broken 1 (recorded h)) k
    where
      at : (o : Option ℕ) → IsVerdictOfAsking m asked c h o v → IsVerdictOfAmong m asked c h (IsMerge (branch_lengths c)) o v
      at (Some number) j = j
      at None j = from_judged v j

  -- ---- in any order

  pub any_to_verdict : (v : Verdict) → IsVerdictInOrderAsking m asked any_order c h v → IsVerdictAsking m asked c h v
  any_to_verdict v k =
      to_verdict v (same_verdict (IsRunInOrder any_order c) (IsMerge (branch_lengths c)) (λ w j. j.0) (merge_in_any_order (branch_lengths c)) v k)

  pub any_from_verdict : (v : Verdict) → IsVerdictAsking m asked c h v → IsVerdictInOrderAsking m asked any_order c h v
  any_from_verdict v k =
      same_verdict (IsMerge (branch_lengths c)) (IsRunInOrder any_order c) (merge_in_any_order (branch_lengths c)) (λ w j. j.0) v (from_verdict v k)

module _ (m : Source) (c : Case) (h : History) where
  to_interleaving : (v : Verdict) (letters : List ℕ) → IsInterleavingAmong m (post_asked m) c h (IsMerge (branch_lengths c)) v letters → IsInterleaving m c h v letters
  to_interleaving (Explained word) letters k = k
  to_interleaving (Faulted place) letters k = k
  to_interleaving (Unexplained far) letters k = k
  to_interleaving (Broken number) letters k = k

  pub any_to_interleaving : (v : Verdict) (letters : List ℕ) → IsInterleavingInOrder m any_order c h v letters → IsInterleaving m c h v letters
  any_to_interleaving v letters k =
      to_interleaving v letters (same_interleaving m (post_asked m) c h (IsRunInOrder any_order c) (IsMerge (branch_lengths c)) (λ w j. j.0) (merge_in_any_order (branch_lengths c)) v letters k)

-- ---- laws

pub any_order_is_none : AnyOrderIsNone
any_order_is_none m c h v = (any_to_verdict m (post_asked m) c h v, any_from_verdict m (post_asked m) c h v)

module _ (m : Source) (order : List ℕ → ℕ → Bool) (c : Case) (h : History) where
  judged_explained : (v w : Verdict) → IsJudgedAmong m (post_asked m) c h (IsRunInOrder order c) v → IsExplained v → IsJudged m c h w → IsExplained w
  judged_explained (Explained word) (Explained other) k e j = tt
  judged_explained (Explained word) (Faulted place) k e j = j.0 word.items (k.0.0.0, k.0.1)
  judged_explained (Explained word) (Unexplained far) k e j = j.0 word.items (k.0.0.0, k.0.1)
  judged_explained (Explained word) (Broken number) k e j = j
  judged_explained (Faulted place) w k e j = absurd e
  judged_explained (Unexplained far) w k e j = absurd e
  judged_explained (Broken number) w k e j = absurd e

  broken_explained : (number : ℕ) (v : Verdict) → v ≡ Broken number → IsExplained v → ⊥
  broken_explained number (Explained word) k e = cc
  broken_explained number (Faulted place) k e = e
  broken_explained number (Unexplained far) k e = e
  broken_explained number (Broken other) k e = e

  of_explained : (o : Option ℕ) (v w : Verdict) → IsVerdictOfAmong m (post_asked m) c h (IsRunInOrder order c) o v → IsExplained v → IsVerdictOf m c h o w → IsExplained w
  of_explained (Some number) v w k e j = absurd (broken_explained number v k e)
  of_explained None v w k e j = judged_explained v w k e j

pub ordered_is_explained : OrderedIsExplained
ordered_is_explained m order c h v w k e j = of_explained m order c h (first_broken 1 (recorded h)) v w k e j

pub some_is_in_order : SomeIsInOrder
some_is_in_order order lengths never = let first = first_in_order order lengths never in (first.0, first.1.0)
