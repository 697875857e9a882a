-- The verdict on a history with calls of unknown outcome: by the answer of the search, or where the prefix stops.
use Rattle.std.proofs.Common.{◌≡◌, ℕ, ◌+◌, Bool, List, length, sym, ap, ◌∙◌, subst, arith}
use Rattle.pst_case.specs.declared.case.Case.{Case}
use Rattle.pst_case.specs.declared.history.History.{History}
use Rattle.pst_eval.specs.Callbacks.{init_of}
use Rattle.pst_eval.specs.declared.callbacks.Callback.TheVariants.{Init}
use Rattle.pst_eval.specs.declared.callbacks.FaultPlace.{FaultPlace}
use Rattle.pst_grid.specs.Answers.{IsAnswerAmong, ending}
use Rattle.pst_grid.specs.Merges.{run, none_done, nothing_follows}
use Rattle.pst_grid.specs.Orders.{IsMergeInOrder, NeverBlocks}
use Rattle.pst_grid.specs.declared.steps.Ending.{Ending}
use Rattle.pst_grid.specs.declared.steps.Ending.TheVariants.{AllTrue, StopsAt}
use Rattle.pst_grid.specs.declared.steps.SomeAnswer.{SomeAnswer}
use Rattle.pst_grid.specs.declared.steps.SomeAnswer.TheVariants.{Found, Faulted as FaultedWord, Nothing}
use Rattle.pst_grid.specs.declared.steps.StopReason.{StopReason}
use Rattle.pst_grid.specs.declared.steps.StopReason.TheVariants.{False, Fault}
use Rattle.pst_judge.proofs.FromSearch.{first_in_order}
use Rattle.pst_judge.proofs.Shifted.{shifted, shifted-true, shifted-stops, from_true, from_false, from_fault, runs_through, runs_stopped}
use Rattle.pst_judge.specs.Replay.{Asking, from_opening, run_asking}
use Rattle.pst_judge.specs.Running.{events_end}
use Rattle.pst_judge.specs.Unknown.{IsJudgedOfCalls, IsWordOfCalls, calls_order, column_outcome, replayed_calls}
use Rattle.pst_judge.specs.UnknownCalls.{columns, column_lengths, known_counts, known_prefix}
use Rattle.pst_judge.specs.UnknownFitting.{IsOfAnswer, IsVerdictOfColumns, start_of}
use Rattle.pst_judge.specs.declared.judgement.Verdict.{Verdict}
use Rattle.pst_judge.specs.declared.judgement.Verdict.TheVariants.{Explained, Faulted, Unexplained, Broken}
use Rattle.pst_judge.specs.declared.replay.EventsEnd.TheVariants.{Through, Stopped}
use Rattle.pst_judge.specs.declared.unknown_search.Moment.{Moment}
use Rattle.pst_model.specs.declared.model.Source.{Source}
use Rattle.pst_operators.specs.Outcome.{Gives, Faults}
use Rattle.pst_value.specs.declared.fault.Fault.{Fault as ValueFault}
use Rattle.pst_value.specs.declared.value.Value.{Value}

module _ (m : Source) (asked : Asking) (order : List ℕ → ℕ → Bool) (c : Case) (h : History) where
  abbrev lengths : List ℕ
  lengths = column_lengths c h

  abbrev all_order : List ℕ → ℕ → Bool
  all_order = calls_order order c h

  abbrev IsJudgedSo : Verdict → Type 0
  IsJudgedSo = IsJudgedOfCalls m asked order c h

  -- ---- all words stop at one event of the prefix, or at the opening state

  stopped_false : NeverBlocks all_order lengths → (n : ℕ) → ((w : List ℕ) → replayed_calls m asked c h w ≡ StopsAt n False) → IsJudgedSo (Unexplained n)
  stopped_false never n all = let first = first_in_order all_order lengths never in (
    λ v k. let q = sym (all v) ∙ k.1 in cc,
    λ v k. let q = sym (all v) ∙ k.1.2 in cc,
    (first.0, (first.1.0, all first.0)),
    λ v j k. let q = sym (all v) ∙ k.1 in let p : n ≡ j = cc in omega (arith, p),
  )

  stopped_fault : NeverBlocks all_order lengths → (n : ℕ) (p : FaultPlace) → ((w : List ℕ) → replayed_calls m asked c h w ≡ StopsAt n (Fault p)) → IsJudgedSo (Faulted p)
  stopped_fault never n p all = let first = first_in_order all_order lengths never in (
    λ v k. let q = sym (all v) ∙ k.1 in cc,
    (first.0, ((first.1.0, (n, p, all first.0)), λ v k. first.1.1 v k.0), (n, all first.0)),
  )

  -- ---- the prefix is through, and the search has answered

  module _ (s : Value) (n : ℕ) (all : (w : List ℕ) → replayed_calls m asked c h w ≡ shifted n (ending (column_outcome m asked (columns c h)) nothing_follows lengths (start_of s (columns c h)) w)) where
    abbrev end_of : List ℕ → Ending FaultPlace
    end_of = ending (column_outcome m asked (columns c h)) nothing_follows lengths (start_of s (columns c h))

    true_from : (w : List ℕ) → replayed_calls m asked c h w ≡ AllTrue → end_of w ≡ AllTrue
    true_from w e = from_true n _ (sym (all w) ∙ e)

    true_to : (w : List ℕ) → end_of w ≡ AllTrue → replayed_calls m asked c h w ≡ AllTrue
    true_to w e = all w ∙ ap (shifted n) e ∙ shifted-true n

    stops_to : (w : List ℕ) (k : ℕ) (why : StopReason FaultPlace) → end_of w ≡ StopsAt k why → replayed_calls m asked c h w ≡ StopsAt (n + k) why
    stops_to w k why e = all w ∙ ap (shifted n) e ∙ shifted-stops n k why

    judged_by : (a : SomeAnswer FaultPlace) (v : Verdict) → IsAnswerAmong (column_outcome m asked (columns c h)) nothing_follows lengths (start_of s (columns c h)) (IsWordOfCalls order c h) a
        → IsOfAnswer (known_counts c h) n a v → IsJudgedSo v
    judged_by (Found word) (Explained letters) k e = (word.items, ((k.0.0, true_to word.items k.0.1), λ v q. k.1 v (q.0, true_from v q.1)), e)
    judged_by (Found word) (Faulted place) k e = absurd e
    judged_by (Found word) (Unexplained far) k e = absurd e
    judged_by (Found word) (Broken number) k e = absurd e
    judged_by (FaultedWord word at place) v k e = subst IsJudgedSo (sym e) (
      λ w q. k.0 w (q.0, true_from w q.1),
      (
        word.items,
        ((k.1.0.0.0, (n + at, place, stops_to word.items at (Fault place) k.1.1)), λ w q. let f = from_fault n _ q.1.0 q.1.1 (sym (all w) ∙ q.1.2) in k.1.0.1 w (q.0, (f.0, q.1.1, f.1))),
        (n + at, stops_to word.items at (Fault place) k.1.1),
      ),
    )
    judged_by (Nothing far word) v k e = subst IsJudgedSo (sym e) (
      λ w q. k.0 w (q.0, true_from w q.1),
      λ w q. let f = from_fault n _ q.1.0 q.1.1 (sym (all w) ∙ q.1.2) in k.1 w (q.0, (f.0, q.1.1, f.1)),
      (word.items, (k.2.0.0, stops_to word.items far False k.2.0.1)),
      λ w j q. let f = from_false n _ j (sym (all w) ∙ q.1) in let b = k.3 w f.0 (q.0, f.1) in let z = f.2 in omega (arith, b, z),
    )

  -- ---- how the replay goes

  abbrev rest_of : List ℕ → Value → Ending FaultPlace
  rest_of w s = run (column_outcome m asked (columns c h)) nothing_follows (none_done lengths) (start_of s (columns c h)) w

  opened : (p : Value × ℕ) → init_of m ≡ Gives p → (w : List ℕ) → replayed_calls m asked c h w ≡ run_asking m asked (known_prefix c h) p.0 (rest_of w)
  unfolding replayed_calls
  opened p e w = ap (λ o. from_opening o (λ s. run_asking m asked (known_prefix c h) s (rest_of w))) e

  unopened : (k : ValueFault) → init_of m ≡ Faults k → (w : List ℕ) → replayed_calls m asked c h w ≡ StopsAt 0 (Fault (record { command = 0; callback = Init; fault = k }))
  unfolding replayed_calls
  unopened k e w = ap (λ o. from_opening o (λ s. run_asking m asked (known_prefix c h) s (rest_of w))) e

  pub init_faults : NeverBlocks all_order lengths → (k : ValueFault) → init_of m ≡ Faults k → IsJudgedSo (Faulted (record { command = 0; callback = Init; fault = k }))
  init_faults never k e = stopped_fault never 0 _ (unopened k e)

  pub prefix_false : NeverBlocks all_order lengths → (p : Value × ℕ) (n : ℕ) → init_of m ≡ Gives p → events_end m asked (known_prefix c h) p.0 ≡ Stopped n False → IsJudgedSo (Unexplained n)
  prefix_false never p n e k = stopped_false never n (λ w. opened p e w ∙ runs_stopped m asked (rest_of w) (known_prefix c h) p.0 n False k)

  pub prefix_faults : NeverBlocks all_order lengths → (p : Value × ℕ) (n : ℕ) (place : FaultPlace) → init_of m ≡ Gives p → events_end m asked (known_prefix c h) p.0 ≡ Stopped n (Fault place) → IsJudgedSo (Faulted place)
  prefix_faults never p n place e k = stopped_fault never n place (λ w. opened p e w ∙ runs_stopped m asked (rest_of w) (known_prefix c h) p.0 n (Fault place) k)

  pub prefix_through : (p : Value × ℕ) (s : Value) (v : Verdict) → init_of m ≡ Gives p → events_end m asked (known_prefix c h) p.0 ≡ Through s
      → IsVerdictOfColumns m asked (columns c h) order (length (known_prefix c h)) s v → IsJudgedSo v
  prefix_through p s v e k a =
      judged_by s (length (known_prefix c h)) (λ w. opened p e w ∙ runs_through m asked (rest_of w) (known_prefix c h) p.0 s k) a.0 v a.1 a.2
