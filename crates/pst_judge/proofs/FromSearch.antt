-- The verdict on a history: by the answer of the search, or where the prefix stops.
use Rattle.std.proofs.Common.{◌≡◌, ℕ, ◌+◌, Bool, List, sym, ap, ◌∙◌, arith}
use Rattle.pst_case.specs.declared.case.Case.{Case}
use Rattle.pst_case.specs.declared.history.History.{History}
use Rattle.pst_grid.specs.Answers.{IsAnswerAmong, ending}
use Rattle.pst_grid.specs.Completions.{fill_from}
use Rattle.pst_grid.specs.Merges.{IsMerge, IsLeast, IsUpTo, none_done}
use Rattle.pst_grid.specs.Orders.{IsMergeInOrder, NeverBlocks}
use Rattle.pst_grid.specs.declared.steps.Ending.{Ending}
use Rattle.pst_grid.specs.declared.steps.Ending.TheVariants.{AllTrue, StopsAt}
use Rattle.pst_grid.specs.declared.steps.SomeAnswer.{SomeAnswer}
use Rattle.pst_grid.specs.declared.steps.SomeAnswer.TheVariants.{Found, Faulted as FaultedWord, Nothing}
use Rattle.pst_grid.specs.declared.steps.StepOutcome.{StepOutcome}
use Rattle.pst_grid.specs.declared.steps.StopReason.{StopReason}
use Rattle.pst_grid.specs.declared.steps.StopReason.TheVariants.{False, Fault}
use Rattle.pst_grid.proofs.Filling.{Completes-fill, fill_least}
use Rattle.pst_grid.proofs.Answering.{IsAt-none, completes, merge}
use Rattle.pst_grid.proofs.Opening.{Extends-filled, fill, filled_least}
use Rattle.pst_judge.proofs.Shifted.{shifted, shifted-true, shifted-stops, from_true, from_false, from_fault}
use Rattle.pst_judge.specs.Replay.{Asking, replayed_asking, branch_lengths}
use Rattle.pst_judge.specs.FromAnswer.{verdict_of}
use Rattle.pst_judge.specs.InOrder.{IsJudgedAmong}
use Rattle.pst_eval.specs.declared.callbacks.FaultPlace.{FaultPlace}
use Rattle.pst_judge.specs.declared.judgement.Verdict.TheVariants.{Faulted, Unexplained}
use Rattle.pst_model.specs.declared.model.Source.{Source}
use Rattle.pst_value.specs.declared.value.Value.{Value}

-- there is a least merge
unfoldable pub first_merge : List ℕ → List ℕ
first_merge lengths = fill_from 0 lengths (none_done lengths)

pub first_is_merge : (lengths : List ℕ) → IsMerge lengths (first_merge lengths)
unfolding first_merge
first_is_merge lengths = let a = IsAt-none lengths in completes lengths _ (Completes-fill lengths (none_done lengths) a.branches a.within)

pub first_is_least : (lengths : List ℕ) (v : List ℕ) → IsMerge lengths v → IsUpTo (first_merge lengths) v
unfolding first_merge
first_is_least lengths v k = fill_least lengths (none_done lengths) v (merge lengths v k)

-- there is a least merge in order
pub first_in_order : (order : List ℕ → ℕ → Bool) (lengths : List ℕ) → NeverBlocks order lengths → (w : List ℕ) × IsLeast (IsMergeInOrder order lengths) w
first_in_order order lengths never =
    let at = IsAt-none lengths in
    let f = fill order lengths never (none_done lengths) at in
    let e = Extends-filled order lengths (none_done lengths) f.0 at f.1 in
    (f.0, ((completes lengths f.0 e.0, e.1), λ v k. filled_least order lengths (none_done lengths) f.0 v at f.1 (merge lengths v k.0, k.1)))

module _ (m : Source) (asked : Asking) (order : List ℕ → ℕ → Bool) (c : Case) (h : History) where
  abbrev pub lengths : List ℕ
  lengths = branch_lengths c

  abbrev pub W : List ℕ → Type 0
  W = IsMergeInOrder order lengths

  -- ---- all words stop at one event of the prefix, or at the opening state

  pub stopped_false : NeverBlocks order lengths → (n : ℕ) → ((w : List ℕ) → replayed_asking m asked c h w ≡ StopsAt n False) → IsJudgedAmong m asked c h W (Unexplained n)
  stopped_false never n all = let first = first_in_order order lengths never in (
    λ v k. let q = sym (all v) ∙ k.1 in cc,
    λ v k. let q = sym (all v) ∙ k.1.2 in cc,
    (first.0, (first.1.0, all first.0)),
    λ v j k. let q = sym (all v) ∙ k.1 in let p : n ≡ j = cc in omega (arith, p),
  )

  pub stopped_fault : NeverBlocks order lengths → (n : ℕ) (p : FaultPlace) → ((w : List ℕ) → replayed_asking m asked c h w ≡ StopsAt n (Fault p)) → IsJudgedAmong m asked c h W (Faulted p)
  stopped_fault never n p all = let first = first_in_order order lengths never in (
    λ v k. let q = sym (all v) ∙ k.1 in cc,
    (first.0, ((first.1.0, (n, p, all first.0)), λ v k. first.1.1 v k.0), (n, all first.0)),
  )

  -- ---- the prefix is through, and the search has answered

  module _ (turn : Value → ℕ → ℕ → StepOutcome Value FaultPlace) (rest : Value → Ending FaultPlace) (s : Value) (n : ℕ) (all : (w : List ℕ) → replayed_asking m asked c h w ≡ shifted n (ending turn rest lengths s w)) where
    true_from : (w : List ℕ) → replayed_asking m asked c h w ≡ AllTrue → ending turn rest lengths s w ≡ AllTrue
    true_from w e = from_true n _ (sym (all w) ∙ e)

    true_to : (w : List ℕ) → ending turn rest lengths s w ≡ AllTrue → replayed_asking m asked c h w ≡ AllTrue
    true_to w e = all w ∙ ap (shifted n) e ∙ shifted-true n

    stops_to : (w : List ℕ) (k : ℕ) (why : StopReason FaultPlace) → ending turn rest lengths s w ≡ StopsAt k why → replayed_asking m asked c h w ≡ StopsAt (n + k) why
    stops_to w k why e = all w ∙ ap (shifted n) e ∙ shifted-stops n k why

    pub judged_by : (a : SomeAnswer FaultPlace) → IsAnswerAmong turn rest lengths s W a → IsJudgedAmong m asked c h W (verdict_of n a)
    judged_by (Found word) k = ((k.0.0, true_to word.items k.0.1), λ v e. k.1 v (e.0, true_from v e.1))
    judged_by (FaultedWord word at place) k = (
      λ w e. k.0 w (e.0, true_from w e.1),
      (
        word.items,
        ((k.1.0.0.0, (n + at, place, stops_to word.items at (Fault place) k.1.1)), λ w e. let q = from_fault n _ e.1.0 e.1.1 (sym (all w) ∙ e.1.2) in k.1.0.1 w (e.0, (q.0, e.1.1, q.1))),
        (n + at, stops_to word.items at (Fault place) k.1.1),
      ),
    )
    judged_by (Nothing far word) k = (
      λ w e. k.0 w (e.0, true_from w e.1),
      λ w e. let q = from_fault n _ e.1.0 e.1.1 (sym (all w) ∙ e.1.2) in k.1 w (e.0, (q.0, e.1.1, q.1)),
      (word.items, (k.2.0.0, stops_to word.items far False k.2.0.1)),
      λ w j e. let q = from_false n _ j (sym (all w) ∙ e.1) in let b = k.3 w q.0 (e.0, q.1) in let z = q.2 in omega (arith, b, z),
    )
